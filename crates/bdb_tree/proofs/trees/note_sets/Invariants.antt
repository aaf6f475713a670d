use Rattle.bdb_faults.specs.Notes.{NotesAll}
use Rattle.bdb_overflow.specs.of_format.Terms.{file_of, page_at}
use Rattle.bdb_tree.specs.Noted.{set_faults}
use Rattle.bdb_tree.proofs.trees.note_sets.Given as goal

-- The faults of the sets that the pairs passed name are noted.
abbrev pub invariant-loop-i : goal.invariant-loop-i
invariant-loop-i g l =
    NotesAll (g.F.FaultSink.has_noted l.fn.found) (g.F.FaultSink.has_noted l.found)
    (set_faults (file_of l.forest) (page_at (file_of l.forest) l.page) l.i)
