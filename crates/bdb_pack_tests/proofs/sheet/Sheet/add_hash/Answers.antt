use Rattle.std.proofs.Common.{sym, subst}
use Rattle.bdb_form.specs.of_layout.Seen.{hash_content_seen}
use Rattle.bdb_pack.specs.Items.{OnHash}
use Rattle.bdb_pack_tests.specs.Sheet.{IsSheet}
use Rattle.bdb_pack_tests.proofs.SheetLemmas.{with_taken}
use Rattle.bdb_pack_tests.proofs.sheet.Sheet.add_hash.Goals as goal

pub invariant_of-self : goal.invariant_of-self
invariant_of-self c =
    subst IsSheet (sym c.append_hash.ensures)
    (with_taken c.self.inside.pages c.order-order.result c.page.result.now (OnHash (hash_content_seen c.args.item.now))
    c.self.invariant c.order-order.ensures.order c.page.ensures.bytes
    c.if-not-takes_hash.ensures c.if-not-has_room_for_hash.ensures.fits c.if-not-has_room_for_hash.ensures.room)
