use Rattle.std.proofs.Common.{sym, subst}
use Rattle.bdb_pack_tests.specs.Sheet.{IsSheet}
use Rattle.bdb_pack_tests.proofs.SheetLemmas.{with_shared}
use Rattle.bdb_pack_tests.proofs.sheet.Sheet.share.Goals as goal

pub invariant_of-self : goal.invariant_of-self
invariant_of-self c =
    subst IsSheet (sym c.append_shared.ensures)
    (with_shared c.self.inside.pages c.order-order.result c.page.result.now c.room.result c.self.invariant c.order-order.ensures.order c.page.ensures.bytes
    c.if-not-has_pairs.ensures c.room.ensures c.if-room-lt2.false)
