use Rattle.std.proofs.Common.{◌≡◌, ◌++◌, map}
use Rattle.bdb_rescue.specs.Gathered.{loose_pair}
use Rattle.bdb_apart.proofs.section_pairs.push_slots.Given as goal

-- The records so far, and those that are left, are all.
abbrev pub invariant-loop-number : goal.invariant-loop-number
invariant-loop-number l = l.pairs ++ map loose_pair l.number-iterator ≡ l.initial.pairs ++ map loose_pair l.fn.records
