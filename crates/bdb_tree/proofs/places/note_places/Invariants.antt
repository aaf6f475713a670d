use Rattle.std.proofs.Common.{take, flat_map}
use Rattle.bdb_faults.specs.Notes.{NotesAll}
use Rattle.bdb_overflow.specs.of_format.Terms.{file_of, places_from}
use Rattle.bdb_tree.specs.Noted.{place_faults}
use Rattle.bdb_tree.proofs.places.note_places.Given as goal

-- The faults of the leaves passed are noted.
abbrev pub invariant-loop-i : goal.invariant-loop-i
invariant-loop-i g l =
    NotesAll (g.F.FaultSink.has_noted l.fn.found) (g.F.FaultSink.has_noted l.found)
    (flat_map (place_faults (file_of l.forest)) (take l.i (places_from l.sort 0 l.leaves)))
