use Rattle.std.proofs.Common.{◌≡◌, ℕ, ◌-◌, ◌<◌, true, option_to_list}
use Rattle.bdb_faults.specs.Notes.{NotesAll}
use Rattle.bdb_faults.specs.of_format.Terms.{by_page, form_code, page_bytes}
use Rattle.bdb_slots.specs.Plain.{IsPlainIn}
use Rattle.bdb_image.proofs.open.note_forms.Given as goal

-- The faults of form of the pages passed are noted, and it's told whether these are plain.
abbrev pub invariant-loop-number : goal.invariant-loop-number
invariant-loop-number g l = record {
  noted : NotesAll (g.F.FaultSink.has_noted l.fn.found) (g.F.FaultSink.has_noted l.found)
      (by_page 2 0 (l.number - 0) (λ p. option_to_list (form_code l.head p (page_bytes l.head l.image p))));
  plain : l.plain ≡ true → (p : ℕ) → p < l.number → IsPlainIn l.head (page_bytes l.head l.image p);
}
