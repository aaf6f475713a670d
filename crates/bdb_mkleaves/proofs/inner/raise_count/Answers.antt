use Rattle.bdb_mkleaves.proofs.InnerLemmas.{raised_written}
use Rattle.bdb_mkleaves.proofs.inner.raise_count.Goals as goal

pub returns : goal.returns
returns c =
    raised_written c.args.pages.now c.args.head _ _ _ c.requires.head c.requires.whole c.requires.legal
    c.order-order.ensures.order c.page_mut.ensures.value c.put_u16.ensures
