use Rattle.std.proofs.Common.{◌≡◌, ℕ, ◌+◌, ◌<◌, ◌≤◌, true, get_or}
use Rattle.test_images.specs.of_slots.Slots.{no_internal_item}
use Rattle.bdb_graph_tests.specs.Sought.{is_above}
use Rattle.bdb_graph_tests.proofs.descents.stays_true.Given as goal

abbrev pub invariant-loop-i : goal.invariant-loop-i
invariant-loop-i l =
    (k : ℕ) → 1 ≤ k → k + 1 < l.i → is_above l.sought.key.now (get_or l.page.items k no_internal_item).key ≡ true
    → is_above l.sought.key.now (get_or l.page.items (k + 1) no_internal_item).key ≡ true
