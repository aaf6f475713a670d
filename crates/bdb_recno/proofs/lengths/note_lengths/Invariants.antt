use Rattle.std.proofs.Common.{◌≡◌, ◌++◌, List, ℕ}
use Rattle.bdb_faults.specs.Notes.{NotesAll}
use Rattle.bdb_tree.specs.of_format.Terms.{file_of, leaves}
use Rattle.bdb_recno.specs.Noted.{length_faults}
use Rattle.bdb_recno.proofs.lengths.note_lengths.Given as goal

-- The faults of the leaves passed are noted; with those that are left they are all.
abbrev pub invariant-loop-leaf : goal.invariant-loop-leaf
invariant-loop-leaf g l =
    (passed : List ℕ)
    × (passed ++ l.leaf-iterator ≡ leaves (file_of l.forest) l.meta.root)
    × NotesAll (g.F.FaultSink.has_noted l.fn.found) (g.F.FaultSink.has_noted l.found) (length_faults (file_of l.forest) l.meta passed)
