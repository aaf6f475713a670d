use Rattle.std.proofs.Common.{arith}
use Rattle.bdb_mkleaves.proofs.LeafLemmas.{begun_long, field_written, previous_set}
use Rattle.bdb_mkleaves.proofs.entries.set_previous.Goals as goal

pub returns-clause-page : goal.returns-clause-page
returns-clause-page c =
    field_written c.args.pages.now c.args.leaf 12 c.args.previous _ _ _ (omega arith) c.requires.leaf c.requires.whole
    (begun_long c.args.pages.now c.args.leaf c.requires.leaf c.requires.whole c.requires.begun) c.order-order.ensures.order
    c.page_mut.ensures.value c.put_u32.ensures

pub returns-clause-holds : goal.returns-clause-holds
returns-clause-holds c = λ type. previous_set type c.args.pages.now _ c.args.leaf c.args.previous c.requires.leaf (omega arith) (returns-clause-page c)
