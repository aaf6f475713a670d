use Rattle.std.proofs.Common.{ℕ, List, subst, arith, option_to_list}
use Rattle.bdb_faults.specs.of_format.Terms.{form_code, page_bytes}
use Rattle.bdb_faults.specs.Notes.{NotesAll}
use Rattle.bdb_image.specs.Noted.{page_faults}
use Rattle.bdb_image.proofs.FormedLemmas.{IsPaged, accepted_paged}
use Rattle.bdb_image.proofs.NotedLemmas.{forms_noted, none_noted, page_noted}
use Rattle.bdb_slots.proofs.PlainLemmas.{plain_more}
use Rattle.bdb_image.proofs.open.note_forms.Goals as goal

pub overflow_add-number-end : goal.overflow_add-number-end
overflow_add-number-end g c =
    let paged : IsPaged c.args.image.now c.args.head.now = accepted_paged c.args.image.now c.args.head.now c.requires in
    omega arith

pub page_bytes-requires-clause-there : goal.page_bytes-requires-clause-there
page_bytes-requires-clause-there g c =
    let paged : IsPaged c.args.image.now c.args.head.now = accepted_paged c.args.image.now c.args.head.now c.requires in
    omega arith

pub note_page-requires-clause-last : goal.note_page-requires-clause-last
note_page-requires-clause-last g c =
    let paged : IsPaged c.args.image.now c.args.head.now = accepted_paged c.args.image.now c.args.head.now c.requires in
    omega arith

pub loop-number-init : goal.loop-number-init
loop-number-init g c =
    record {
      noted = none_noted (g.F.FaultSink.has_noted c.args.found.now) 2 0 0
          (λ p. option_to_list (form_code c.args.head.now p (page_bytes c.args.head.now c.args.image.now p))) (omega arith);
      plain = λ _ p below. absurd (omega arith);
    }

pub loop-number-preserved : goal.loop-number-preserved
loop-number-preserved g c =
    record {
      noted = page_noted (g.F.FaultSink.has_noted c.args.found.now) (g.F.FaultSink.has_noted c.loop-number.found)
          (g.F.FaultSink.has_noted c.note_page.new.found) 2 0
          c.loop-number.number (λ p. option_to_list (form_code c.args.head.now p (page_bytes c.args.head.now c.args.image.now p))) (omega arith)
          c.loop-number.invariant.noted
          (subst (λ (bytes : List ℕ). NotesAll (g.F.FaultSink.has_noted c.loop-number.found) (g.F.FaultSink.has_noted c.note_page.new.found)
          (page_faults 2 c.loop-number.number (option_to_list (form_code c.args.head.now c.loop-number.number bytes)))) c.page_bytes.ensures.bytes
          c.in_ok-plain.ensures.noted);
      plain = plain_more c.args.head.now c.args.image.now c.loop-number.number c.loop-number.plain _ c.page_bytes.result.now c.page_bytes.ensures.bytes
          c.loop-number.invariant.plain c.in_ok-plain.ensures.plain;
    }

pub returns-clause-noted : goal.returns-clause-noted
returns-clause-noted g c =
    forms_noted (g.F.FaultSink.has_noted c.args.found.now) (g.F.FaultSink.has_noted c.loop-number.found) c.args.image.now c.args.head.now c.loop-number.number
    c.requires.head_is (omega arith) c.loop-number.invariant.noted

pub returns-clause-plain : goal.returns-clause-plain
returns-clause-plain g c is p low = c.loop-number.invariant.plain is p (omega arith)
