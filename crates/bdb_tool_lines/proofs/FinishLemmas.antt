-- How an answer is written.
use Rattle.std.proofs.Common.{List, [], arith, inl, inr, length, refl, subst, sym, ℕ, ◌<◌, ◌∙◌, ◌≡◌, ◌≢◌, ◌≤◌, Err, Ok, Option, Result}
use Rattle.std.proofs.Math.Seq.{take-length}
use Rattle.bdb_model.specs.Answers.{Answer, done}
use Rattle.bdb_model.specs.Change.{Change, Gains, GainsPart}
use Rattle.bdb_faults.proofs.of_format.KnownLemmas.{appends_nothing}
use Rattle.bdb_model.specs.Lines.{memory_line}
use Rattle.bdb_tool_lines.specs.declared.cut.Cut.{Cut}
use Rattle.bdb_tool_lines.specs.declared.cut.Cut.TheVariants.{Memory, WriteFault}
use Rattle.bdb_tool_lines.specs.Finished.{Finishes, HasOwnStatus, Reports, Tells}
use Rattle.bdb_tool_lines.specs.Printing.{Writes}
use Rattle.bdb_tool_lines.proofs.PrintingLemmas.{moved, nothing_of}
use Rattle.std.specs.Io.KnownBytes.{Appends}
use Rattle.bdb_faults.specs.of_format.Terms.{AppendsPrefix, Rose}

-- what was written whole was written in part
whole_part : (text : List ℕ) (out : Change) → Gains out text → GainsPart out text
whole_part text out got = (length text, subst (Gains out) (sym (take-length text)) got)

-- an answer that prints nothing is finished by telling its line
pub told_finishes : (status : ℕ) (text : List ℕ) (written : Option (List ℕ)) (faults : ℕ) (err : Change) (given : ℕ) → status ≢ 5 → status ≢ 7
    → Tells text status err given
    → Finishes (record { status = status; out = []; err = text }) (moved written written faults faults) err given
told_finishes status text written faults err given no_fault no_memory tells = record {
  status_is = elim tells.status_is [ inl is ↦ inl is | inr is ↦ inr (inl is) ];
  printed = λ _. appends_nothing written;
  told = tells.told;
  part = (0, appends_nothing written);
  failed = λ is. inr (tells.failed is);
  write_fault_line_told = λ is unfailed. absurd (unfailed (tells.failed is));
  error_line_begun = λ is. inr (inr (tells.part is));
  memory = λ is. absurd (elim tells.status_is [ inl own ↦ no_memory (sym own ∙ is) | inr five ↦ omega arith ]);
}

-- memory ran out before anything was printed
pub memory_finishes : (answer : Answer) (written : Option (List ℕ)) (faults : ℕ) (err : Change) (given : ℕ) → HasOwnStatus answer
    → Tells memory_line 7 err given → Finishes answer (moved written written faults faults) err given
memory_finishes answer written faults err given own tells = record {
  status_is = elim tells.status_is [ inl is ↦ inr (inr is) | inr is ↦ inr (inl is) ];
  printed = λ is. absurd (elim tells.status_is [ inl seven ↦ own.no_memory (sym is ∙ seven) | inr five ↦ own.no_write_fault (sym is ∙ five) ]);
  told = λ is. absurd (elim tells.status_is [ inl seven ↦ own.no_memory (sym is ∙ seven) | inr five ↦ own.no_write_fault (sym is ∙ five) ]);
  part = (0, appends_nothing written);
  failed = λ is. inr (tells.failed is);
  write_fault_line_told = λ is unfailed. absurd (unfailed (tells.failed is));
  error_line_begun = λ is. inr (inl (tells.part is));
  memory = tells.told;
}

-- a text was written, or cut off, and that was told
pub written_finishes : (text : List ℕ) (out err : Change) (written : Result Unit Cut) (status : ℕ) → Writes text out written → Reports written err status
    → Finishes (done text) out err status
written_finishes text out err (Ok unit) status writes reports = record {
  status_is = inl reports.0;
  printed = λ _. writes.written;
  told = λ _. reports.1;
  part = whole_part text out writes.written;
  failed = λ is. let zero_is : status ≡ 0 = reports.0 in absurd (omega arith);
  write_fault_line_told = λ is _. let zero_is : status ≡ 0 = reports.0 in absurd (omega arith);
  error_line_begun = λ is. let zero_is : status ≡ 0 = reports.0 in absurd (omega arith);
  memory = λ is. let zero_is : status ≡ 0 = reports.0 in absurd (omega arith);
}
written_finishes text out err (Err WriteFault) status writes reports = record {
  status_is = inr (inl reports.0);
  printed = λ is. let five : status ≡ 5 = reports.0 in absurd (omega arith);
  told = λ is. let five : status ≡ 5 = reports.0 in absurd (omega arith);
  part = writes.written.part;
  failed = λ _. inl (writes.written.cause refl);
  write_fault_line_told = λ _ unfailed. reports.1 unfailed;
  error_line_begun = λ _. inl reports.2;
  memory = λ is. let five : status ≡ 5 = reports.0 in absurd (omega arith);
}
written_finishes text out err (Err Memory) status writes reports = record {
  status_is = elim reports.status_is [ inl is ↦ inr (inr is) | inr is ↦ inr (inl is) ];
  printed = λ is. absurd (elim reports.status_is [ inl seven ↦ omega arith | inr five ↦ omega arith ]);
  told = λ is. absurd (elim reports.status_is [ inl seven ↦ omega arith | inr five ↦ omega arith ]);
  part = writes.written.part;
  failed = λ is. inr (reports.failed is);
  write_fault_line_told = λ is unfailed. absurd (unfailed (reports.failed is));
  error_line_begun = λ is. inr (inl (reports.part is));
  memory = reports.told;
}

-- a status below 4 is the answer's own
pub low_own : (answer : Answer) → answer.status < 4 → HasOwnStatus answer
low_own answer low = record { no_read_fault = λ is. omega arith; no_write_fault = λ is. omega arith; no_memory = λ is. omega arith }

-- One line.

pub line_written : (a b : Option (List ℕ)) (f g : ℕ) (given text : List ℕ) → given ≡ text → Appends a b given → f ≤ g → Writes text (moved a b f g) (Ok tt)
line_written a b f g given text is got later = record { written = subst (Appends a b) is got; later = later }

pub line_cut : (a b : Option (List ℕ)) (f g : ℕ) (given text : List ℕ) → given ≡ text → AppendsPrefix a b given → f ≤ g → Rose f g
    → Writes text (moved a b f g) (Err WriteFault)
line_cut a b f g given text is part later rose = record { written = record { part = subst (AppendsPrefix a b) is part; cause = λ _. rose }; later = later }

pub no_line : (a : Option (List ℕ)) (f : ℕ) (text : List ℕ) → Writes text (moved a a f f) (Err Memory)
no_line a f text = record { written = record { part = nothing_of a text; cause = λ is. cc }; later = omega arith }

-- a text was written that is another
pub same_text : (given text : List ℕ) (out : Change) (result : Result Unit Cut) → given ≡ text → Writes given out result → Writes text out result
same_text given text out result is writes = subst (λ bytes. Writes bytes out result) is writes
