use Rattle.std.proofs.Common.{◌≤◌, drop}
use Rattle.bdb_need.proofs.Common.{values_seen, data_units}
use Rattle.bdb_need.proofs.TreeLemmas.{CountedTo}
use Rattle.bdb_need.proofs.data.unsorted_pages.Given as goal

-- The data passed are counted.
abbrev pub invariant-loop-i : goal.invariant-loop-i
invariant-loop-i l = CountedTo l.size (data_units (values_seen l.values)) (data_units (drop l.i (values_seen l.values))) l.open × (l.open.closed ≤ l.i)
