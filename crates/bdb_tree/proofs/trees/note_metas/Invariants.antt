use Rattle.std.specs.List.{flat_map}
use Rattle.std.specs.Prelude.{take}
use Rattle.bdb_faults.specs.Notes.{NotesAll}
use Rattle.bdb_overflow.specs.of_format.Terms.{file_of}
use Rattle.bdb_overflow.specs.of_image.Linked.{meta_pages}
use Rattle.bdb_tree.specs.Noted.{meta_faults}
use Rattle.bdb_tree.proofs.trees.note_metas.Given as goal

-- The faults of the trees of the metadata passed are noted.
abbrev pub invariant-loop-i : goal.invariant-loop-i
invariant-loop-i g l =
    NotesAll (g.F.FaultSink.has_noted l.fn.found) (g.F.FaultSink.has_noted l.found)
    (flat_map (meta_faults (file_of l.linked)) (take l.i (meta_pages (file_of l.linked))))
