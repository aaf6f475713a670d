use Rattle.std.proofs.Common.{◌≡◌, length}
use Rattle.bdb_tree.specs.of_format.Terms.{file_of}
use Rattle.bdb_recno.specs.Entries.{AreNumbered, listed_after}
use Rattle.bdb_recno.proofs.listing.ScanIterator.next.Given as goal

-- No live record was passed.
abbrev pub invariant-loop-entry : goal.invariant-loop-entry
invariant-loop-entry l = record {
  left :
      listed_after (file_of l.self-inside.forest) l.self-inside.passed l.self-inside.entries
      ≡ listed_after (file_of l.initial.self-inside.forest) l.initial.self-inside.passed l.initial.self-inside.entries;
  numbered : AreNumbered (file_of l.self-inside.forest) l.self-inside.passed l.self-inside.entries;
}

abbrev pub decreases-loop-entry : goal.decreases-loop-entry
decreases-loop-entry l = length l.self-inside.entries
