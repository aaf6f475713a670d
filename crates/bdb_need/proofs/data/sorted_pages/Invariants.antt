use Rattle.std.proofs.Common.{◌≡◌, ◌≤◌, drop, length}
use Rattle.bdb_need.proofs.Common.{values_seen, page_room, data_units}
use Rattle.bdb_need.proofs.TreeLemmas.{KeyedTo}
use Rattle.bdb_need.proofs.data.sorted_pages.Given as goal

-- The data passed are counted.
abbrev pub invariant-loop-i : goal.invariant-loop-i
invariant-loop-i l =
    KeyedTo l.size (data_units (values_seen l.values)) (data_units (drop l.i (values_seen l.values))) l.leaves.left l.leaves.items.items
    × (l.leaves.room ≡ page_room l.size) × (length l.leaves.items.items ≤ l.i)
