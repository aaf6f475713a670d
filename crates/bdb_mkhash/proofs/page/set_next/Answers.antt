use Rattle.std.proofs.Common.{arith}
use Rattle.bdb_mktree.proofs.of_mkleaves.LeafLemmas.{begun_long, field_written}
use Rattle.bdb_mkhash.proofs.PageLemmas.{next_set}
use Rattle.bdb_mkhash.proofs.page.set_next.Goals as goal

pub returns-clause-page : goal.returns-clause-page
returns-clause-page c =
    field_written c.args.pages.now c.args.page 16 c.args.next _ _ _ (omega arith) c.requires.page c.order-order.ensures.whole
    (begun_long c.args.pages.now c.args.page c.requires.page c.order-order.ensures.whole c.requires.begun) c.order-order.ensures.order
    c.page_mut.ensures.value c.put_u32.ensures

pub returns-clause-holds : goal.returns-clause-holds
returns-clause-holds c = next_set c.args.pages.now _ c.args.page c.args.next c.requires.page (omega arith) (returns-clause-page c)
