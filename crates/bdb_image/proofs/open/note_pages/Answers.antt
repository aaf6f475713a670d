use Rattle.std.proofs.Common.{List, subst, sym}
use Rattle.bdb_faults.specs.Notes.{NotesAll}
use Rattle.bdb_faults.specs.of_format.Terms.{form_faults, tail_faults}
use Rattle.bdb_faults.specs.of_format.declared.kinds.Fault.{Fault}
use Rattle.bdb_image.proofs.NotedLemmas.{alone_noted, head_passed, next_noted}
use Rattle.bdb_slots.proofs.PlainLemmas.{on_value}
use Rattle.bdb_image.proofs.open.note_pages.Goals as goal

-- Forms count where no page above the last one does.
pub returns-clause-noted : goal.returns-clause-noted
returns-clause-noted g c =
    on_value c.note_forms.result _ _
    (λ forms. subst (λ (faults : List Fault). NotesAll (g.F.FaultSink.has_noted c.args.found.now) (g.F.FaultSink.has_noted c.note_forms.new.found) faults)
    (sym (head_passed c.args.image.now c.requires.accepted.accepted))
    (next_noted (g.F.FaultSink.has_noted c.args.found.now) (g.F.FaultSink.has_noted c.note_tail.new.found) (tail_faults c.args.image.now) c.is_empty.result
    c.requires.new c.in_ok-note_tail.ensures.noted c.is_empty.ensures (g.F.FaultSink.has_noted c.note_forms.new.found) (form_faults c.args.image.now)
    c.if-not-is_empty.false forms))
    c.note_forms.ensures.noted

pub returns-then-not-is_empty-clause-noted : goal.returns-then-not-is_empty-clause-noted
returns-then-not-is_empty-clause-noted g c =
    subst (λ (faults : List Fault). NotesAll (g.F.FaultSink.has_noted c.args.found.now) (g.F.FaultSink.has_noted c.note_tail.new.found) faults)
    (sym (head_passed c.args.image.now c.requires.accepted.accepted))
    (alone_noted (g.F.FaultSink.has_noted c.args.found.now) (g.F.FaultSink.has_noted c.note_tail.new.found) (tail_faults c.args.image.now) c.is_empty.result
    c.requires.new c.in_ok-note_tail.ensures.noted c.is_empty.ensures (form_faults c.args.image.now) c.if-not-is_empty.true)
