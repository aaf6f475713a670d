use Rattle.std.proofs.Common.{◌≡◌, List, [], ◌∷◌, ap, length, subst, sym, ◌∙◌, arith, None}
use Rattle.bdb_faults.specs.Notes.{NotesAll}
use Rattle.bdb_faults.specs.of_format.Terms.{fault_at, first_row, head_of, head_rows}
use Rattle.bdb_faults.specs.of_format.declared.rows.Row.TheVariants.{File as FileRow}
use Rattle.bdb_faults.proofs.SinkLemmas.{notes_one}
use Rattle.bdb_faults.specs.of_format.declared.kinds.Fault.{Fault}
use Rattle.bdb_image.proofs.FirstLemmas.{answer_is_value}
use Rattle.bdb_image.proofs.NotedLemmas.{head_refused}
use Rattle.bdb_image.proofs.open.note_form.Goals as goal

pub note_pages-requires-clause-accepted : goal.note_pages-requires-clause-accepted
note_pages-requires-clause-accepted g c =
    let is : (c.in-Ok.head ≡ head_of c.args.image.now) × (first_row (head_rows c.args.image.now) ≡ None) = answer_is_value (head_rows c.args.image.now)
    (head_of c.args.image.now) c.in-Ok.head c.in-Ok.ensures in
    record { size = c.requires.size; head_is = is.0; accepted = is.1 }

pub returns-in_ok-plain-in-Ok-clause-read : goal.returns-in_ok-plain-in-Ok-clause-read
returns-in_ok-plain-in-Ok-clause-read g c =
    let is : (c.in-Ok.head ≡ head_of c.args.image.now) × (first_row (head_rows c.args.image.now) ≡ None) = answer_is_value (head_rows c.args.image.now)
    (head_of c.args.image.now) c.in-Ok.head c.in-Ok.ensures in
    (record { size = c.requires.size; head_is = is.0; accepted = is.1 }, c.in_ok-plain-in-Ok.ensures.plain)

pub returns-in_ok-note-in-Err-clause-noted : goal.returns-in_ok-note-in-Err-clause-noted
returns-in_ok-note-in-Err-clause-noted g c =
    subst (λ (faults : List Fault). NotesAll (g.F.FaultSink.has_noted c.args.found.now) (g.F.FaultSink.has_noted c.note.new.self) faults)
    (sym (head_refused c.args.image.now c.in-Err.row c.in-Err.ensures))
    (notes_one (g.F.FaultSink.has_noted c.args.found.now) (g.F.FaultSink.has_noted c.note.new.self) (fault_at (FileRow c.in-Err.row) 0 ∷ [])
    c.in_ok-note-in-Err.ensures.noted)

pub returns-in_ok-note-in-Err-clause-read : goal.returns-in_ok-note-in-Err-clause-read
returns-in_ok-note-in-Err-clause-read g c none =
    absurd (omega (arith, ap (λ (faults : List Fault). length faults) (sym (head_refused c.args.image.now c.in-Err.row c.in-Err.ensures) ∙ none)))
