use Rattle.std.proofs.Common.{[], ◌∷◌, refl, subst, sym}
use Rattle.bdb_image.specs.of_faults.Notes.{NotesAll}
use Rattle.bdb_image.specs.of_format.Terms.{file_of, ownership_faults}
use Rattle.bdb_image.proofs.NotedLemmas.{last_stage, next_stage, stage_alone}
use Rattle.bdb_graph.proofs.linking.note_roles.Goals as goal

-- Stage 5 counts where stage 4 has no fault.
pub returns-in_ok-note_reach-clause-noted : goal.returns-in_ok-note_reach-clause-noted
returns-in_ok-note_reach-clause-noted g c =
    next_stage (g.F.FaultSink.has_noted c.args.found.now) (g.F.FaultSink.has_noted c.note_owners.new.found) (ownership_faults (file_of c.args.roles.now))
    c.is_empty.result c.requires.new c.in_ok-note_owners.ensures.noted c.is_empty.ensures (g.F.FaultSink.has_noted c.note_reach.new.found) c.args.roles.now 4
    (5 ∷ []) refl c.if-is_empty.true
    (subst (NotesAll (g.F.FaultSink.has_noted c.note_owners.new.found) (g.F.FaultSink.has_noted c.note_reach.new.found)) (sym (last_stage c.args.roles.now 5))
    c.in_ok-note_reach.ensures)

pub returns-else-is_empty-clause-noted : goal.returns-else-is_empty-clause-noted
returns-else-is_empty-clause-noted g c =
    stage_alone (g.F.FaultSink.has_noted c.args.found.now) (g.F.FaultSink.has_noted c.note_owners.new.found) (ownership_faults (file_of c.args.roles.now))
    c.is_empty.result c.requires.new c.in_ok-note_owners.ensures.noted c.is_empty.ensures c.args.roles.now 4 (5 ∷ []) refl c.if-is_empty.false
