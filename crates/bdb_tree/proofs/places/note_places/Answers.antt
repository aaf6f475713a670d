use Rattle.std.proofs.Common.{arith, subst}
use Rattle.bdb_faults.specs.Notes.{NotesAll}
use Rattle.bdb_overflow.specs.of_format.Terms.{file_of}
use Rattle.bdb_tree.specs.Noted.{place_faults}
use Rattle.bdb_tree.proofs.NotedLemmas.{all_places, place_more}
use Rattle.bdb_tree.proofs.places.note_places.Goals as goal

pub loop-i-preserved : goal.loop-i-preserved
loop-i-preserved g c =
    place_more (g.F.FaultSink.has_noted c.args.found.now) (g.F.FaultSink.has_noted c.loop-i.found) (g.F.FaultSink.has_noted c.note_place.new.found)
    (place_faults (file_of c.args.forest.now)) c.args.sort c.args.leaves.now c.loop-i.i (omega arith) c.loop-i.invariant c.in_ok-note_place.ensures

pub returns : goal.returns
returns g c =
    subst (NotesAll (g.F.FaultSink.has_noted c.args.found.now) (g.F.FaultSink.has_noted c.loop-i.found))
    (all_places (place_faults (file_of c.args.forest.now)) c.args.sort c.args.leaves.now c.loop-i.i (omega arith)) c.loop-i.invariant
