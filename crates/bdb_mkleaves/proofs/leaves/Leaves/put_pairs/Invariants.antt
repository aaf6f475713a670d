use Rattle.bdb_mkleaves.proofs.Common.{take, values_seen, ArePairsPut}
use Rattle.bdb_mkleaves.proofs.leaves.Leaves.put_pairs.Given as goal

-- The key is put with its first datum and so many others.
abbrev pub invariant-loop-i : goal.invariant-loop-i
invariant-loop-i l = ArePairsPut l.self l.fn.pages l.pages l.key l.first (take l.i (values_seen l.more))
