use Rattle.std.proofs.Common.{refl, sym, subst}
use Rattle.bdb_pack.specs.Items.{OnRecno}
use Rattle.bdb_pack_tests.specs.Sheet.{IsSheet}
use Rattle.bdb_pack_tests.proofs.SheetLemmas.{with_taken}
use Rattle.bdb_pack_tests.proofs.sheet.Sheet.add_recno.Goals as goal

pub invariant_of-self : goal.invariant_of-self
invariant_of-self c =
    let old = c.self.inside.pages in
    subst IsSheet (sym c.append_recno.ensures)
    (with_taken old old.order c.page.result.now (OnRecno c.args.item.now) c.self.invariant refl c.page.ensures.bytes
    (record { holds = sym c.if-not-has_type.ensures; place = tt }) c.if-not-has_room_for_recno.ensures.fits c.if-not-has_room_for_recno.ensures.room)
