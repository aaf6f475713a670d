use Rattle.bdb_faults.specs.of_format.Terms.{form_code}
use Rattle.bdb_image.proofs.NotedLemmas.{form_noted, form_passed}
use Rattle.bdb_image.proofs.open.note_page.Goals as goal

pub returns-in_ok-note-in-Some-clause-noted : goal.returns-in_ok-note-in-Some-clause-noted
returns-in_ok-note-in-Some-clause-noted g c =
    form_noted (g.F.FaultSink.has_noted c.args.found.now) (g.F.FaultSink.has_noted c.note.new.self) c.args.number
    (form_code c.args.head.now c.args.number c.args.page.now) c.in-Some.row c.in-Some.ensures c.in_ok-note-in-Some.ensures.noted

pub returns-then-plain-clause-noted : goal.returns-then-plain-clause-noted
returns-then-plain-clause-noted g c =
    form_passed (g.F.FaultSink.has_noted c.args.found.now) c.args.number (form_code c.args.head.now c.args.number c.args.page.now) c.in-None.ensures

pub returns-else-plain-clause-noted : goal.returns-else-plain-clause-noted
returns-else-plain-clause-noted g c =
    form_passed (g.F.FaultSink.has_noted c.args.found.now) c.args.number (form_code c.args.head.now c.args.number c.args.page.now) c.in-None.ensures
