use Rattle.std.specs.List.{flat_map, range_with_len}
use Rattle.bdb_faults.specs.Notes.{NotesAll}
use Rattle.bdb_overflow.specs.of_format.Terms.{file_of}
use Rattle.bdb_tree.specs.Noted.{held_sets}
use Rattle.bdb_tree.proofs.trees.note_all_sets.Given as goal

-- The faults of the sets that the pages passed name are noted.
abbrev pub invariant-loop-page : goal.invariant-loop-page
invariant-loop-page g l =
    NotesAll (g.F.FaultSink.has_noted l.fn.found) (g.F.FaultSink.has_noted l.found)
    (flat_map (held_sets (file_of l.forest)) (range_with_len 0 l.page))
