use Rattle.std.proofs.Common.{arith}
use Rattle.bdb_places.proofs.of_format.SizeLemmas.{size_bounds}
use Rattle.bdb_mkleaves.proofs.LeafLemmas.{field_written}
use Rattle.bdb_mkleaves.proofs.moving.set_field.Goals as goal

pub returns : goal.returns
returns c =
    field_written c.args.pages.now c.args.page c.args.at c.args.number _ _ _ (omega arith) c.requires.page c.requires.whole
    (omega (arith, (size_bounds c.args.pages.now.size c.requires.legal).0)) c.order-order.ensures.order c.page_mut.ensures.value c.put_u32.ensures
