use Rattle.std.proofs.Common.{refl, sym, subst}
use Rattle.bdb_form.specs.of_layout.Seen.{internal_item_seen}
use Rattle.bdb_pack.specs.Items.{OnInternal}
use Rattle.bdb_pack_tests.specs.Sheet.{IsSheet}
use Rattle.bdb_pack_tests.proofs.SheetLemmas.{with_taken}
use Rattle.bdb_pack_tests.proofs.sheet.Sheet.add_internal.Goals as goal

pub invariant_of-self : goal.invariant_of-self
invariant_of-self c =
    let old = c.self.inside.pages in
    subst IsSheet (sym c.append_internal.ensures)
    (with_taken old old.order c.page.result.now (OnInternal (internal_item_seen c.args.item.now)) c.self.invariant refl c.page.ensures.bytes
    (record { holds = sym c.if-not-has_type.ensures; place = tt }) c.if-not-has_room_for_internal.ensures.fits c.if-not-has_room_for_internal.ensures.room)
