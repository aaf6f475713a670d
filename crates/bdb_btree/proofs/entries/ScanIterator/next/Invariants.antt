use Rattle.std.proofs.Common.{◌≡◌, length}
use Rattle.bdb_ranks.specs.of_format.Terms.{file_of}
use Rattle.bdb_btree.specs.Search.{AreOpen, entries_left}
use Rattle.bdb_btree.proofs.entries.ScanIterator.next.Given as goal

-- As much is left of the list as at the beginning.
abbrev pub invariant-loop-entry : goal.invariant-loop-entry
invariant-loop-entry l = record {
  left : entries_left (file_of l.self-inside.forest) l.self-inside.here l.self-inside.pairs
      ≡ entries_left (file_of l.initial.self-inside.forest) l.initial.self-inside.here l.initial.self-inside.pairs;
  opened : AreOpen (file_of l.self-inside.forest) l.self-inside.pairs;
}

abbrev pub decreases-loop-entry : goal.decreases-loop-entry
decreases-loop-entry l = length l.self-inside.pairs
