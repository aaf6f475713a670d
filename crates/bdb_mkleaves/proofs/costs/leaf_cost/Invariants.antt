use Rattle.bdb_places.specs.Places.{values_seen}
use Rattle.bdb_mkleaves.proofs.PushLemmas.{KeyedSoFar}
use Rattle.bdb_mkleaves.proofs.costs.leaf_cost.Given as goal

-- The cost so far is that of the key and of the data passed; several data take few bytes.
abbrev pub invariant-loop-i : goal.invariant-loop-i
invariant-loop-i l = KeyedSoFar l.size l.key (values_seen l.values) l.i l.cost
