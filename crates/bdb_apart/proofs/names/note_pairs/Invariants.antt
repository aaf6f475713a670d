use Rattle.bdb_apart.specs.Found.{entry_of}
use Rattle.bdb_apart.specs.Names.{IsNoting}
use Rattle.bdb_apart.proofs.names.note_pairs.Given as goal

-- What was noted, and the pairs that are left, are all.
abbrev pub invariant-loop-key : goal.invariant-loop-key
invariant-loop-key l = IsNoting entry_of l.fn.names l.names l.fn.pairs l.key-iterator
