use Rattle.std.proofs.Common.{◌≡◌, length}
use Rattle.bdb_ranks.specs.of_format.Terms.{file_of}
use Rattle.bdb_ranks.specs.of_overflow.Datum.{datum_seen}
use Rattle.bdb_btree.specs.Pairs.{left_of}
use Rattle.bdb_btree.specs.Search.{AreOpen, found_left}
use Rattle.bdb_btree.proofs.found.FoundIterator.next.Given as goal

-- As many data are left as at the beginning.
abbrev pub invariant-loop-value : goal.invariant-loop-value
invariant-loop-value l = record {
  left : found_left (file_of l.self-inside.forest) (datum_seen l.self-inside.key) l.self-inside.here (left_of l.self-inside.pairs)
      ≡ found_left (file_of l.initial.self-inside.forest) (datum_seen l.initial.self-inside.key) l.initial.self-inside.here
      (left_of l.initial.self-inside.pairs);
  opened : AreOpen (file_of l.self-inside.forest) (left_of l.self-inside.pairs);
}

abbrev pub decreases-loop-value : goal.decreases-loop-value
decreases-loop-value l = length (left_of l.self-inside.pairs)
