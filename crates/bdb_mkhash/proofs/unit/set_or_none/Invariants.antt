use Rattle.bdb_mktree.specs.of_places.Places.{values_seen}
use Rattle.bdb_mkhash.proofs.CostLemmas.{SetSoFar}
use Rattle.bdb_mkhash.proofs.unit.set_or_none.Given as goal

-- The data passed stand in their items, and take the cost.
abbrev pub invariant-loop-i : goal.invariant-loop-i
invariant-loop-i l = SetSoFar l.size (values_seen l.values) l.i l.cost
