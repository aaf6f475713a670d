use Rattle.std.proofs.Common.{◌≡◌, length}
use Rattle.bdb_overflow.specs.of_format.Terms.{file_of}
use Rattle.bdb_tree.specs.Entries.{AreThere, entries_left, leaf_entries_seen}
use Rattle.bdb_tree.proofs.entries.TreeEntriesIterator.next.Given as goal

-- No entry was passed.
abbrev pub invariant-loop-entry : goal.invariant-loop-entry
invariant-loop-entry l = record {
  left :
      entries_left (file_of l.self-inside.forest) (leaf_entries_seen l.self-inside.entries) l.self-inside.leaves
      ≡ entries_left (file_of l.initial.self-inside.forest) (leaf_entries_seen l.initial.self-inside.entries) l.initial.self-inside.leaves;
  there : AreThere (file_of l.self-inside.forest) l.self-inside.leaves;
}

abbrev pub decreases-loop-entry : goal.decreases-loop-entry
decreases-loop-entry l = length l.self-inside.leaves
