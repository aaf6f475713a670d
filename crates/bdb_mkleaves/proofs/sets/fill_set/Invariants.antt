use Rattle.bdb_mkleaves.proofs.Common.{take, values_seen, IsSetFilled}
use Rattle.bdb_mkleaves.proofs.sets.fill_set.Given as goal

-- The values passed are on the leaves.
abbrev pub invariant-loop-i : goal.invariant-loop-i
invariant-loop-i l = IsSetFilled l.fn.pages l.pages l.fn.leaf_type (take l.i (values_seen l.values)) l.leaves
