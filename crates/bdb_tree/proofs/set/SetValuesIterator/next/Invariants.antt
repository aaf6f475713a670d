use Rattle.std.proofs.Common.{◌≡◌, length}
use Rattle.bdb_overflow.specs.of_format.Terms.{file_of}
use Rattle.bdb_tree.specs.Entries.{AreFit, values_of}
use Rattle.bdb_tree.proofs.set.SetValuesIterator.next.Given as goal

-- No live entry was passed.
abbrev pub invariant-loop-entry : goal.invariant-loop-entry
invariant-loop-entry l = record {
  left :
      values_of (file_of l.self-inside.forest) l.self-inside.entries ≡ values_of (file_of l.initial.self-inside.forest) l.initial.self-inside.entries;
  fit : AreFit (file_of l.self-inside.forest) l.self-inside.entries;
}

abbrev pub decreases-loop-entry : goal.decreases-loop-entry
decreases-loop-entry l = length l.self-inside.entries
