-- What holds at the pages of a file is told, with its status.
use Rattle.std.proofs.Common.{◌≡◌, ◌∙◌, ℕ, ◌<◌, List, [], ◌∷◌, inl, inr, refl, sym, subst, arith, ◌⊎◌, Ok, Err, Result, Option, Some, None}
use Rattle.bdb_tool_lines.specs.Printing.{Writes}
use Rattle.bdb_tool_lines.specs.Telling.{first_status, judgement_line, judgement_status}
use Rattle.bdb_tool_lines.specs.declared.cut.Cut.{Cut}
use Rattle.bdb_tool_lines.specs.declared.cut.Cut.TheVariants.{WriteFault}
use Rattle.bdb_faults.specs.of_format.declared.kinds.Unsupported.{Unsupported}
use Rattle.bdb_model.specs.Answers.{unsupported_line}
use Rattle.bdb_model.specs.Change.{Change}
use Rattle.bdb_model.specs.Lines.{memory_line}
use Rattle.bdb_faults.specs.of_format.Terms.{Faulty, Judgement, LeftOut, judged_as, judgement_of}
use Rattle.bdb_faults.specs.of_format.declared.kinds.Fault.{Fault}
use Rattle.bdb_tool_lines.specs.Finished.{Tells}

-- Statuses.

low_status : (judgement : Judgement) → (judgement_status judgement ≡ 1) ⊎ (judgement_status judgement ≡ 3)
low_status (Faulty fault) = inl refl
low_status (LeftOut name page) = inr refl

pub not_write_fault : (judgement : Judgement) → judgement_status judgement ≡ 5 → ⊥
not_write_fault judgement is = elim (low_status judgement) [ inl one ↦ omega arith | inr three ↦ omega arith ]

pub list_not_write_fault : (faults : List Fault) → first_status faults ≡ 5 → ⊥
list_not_write_fault [] is = omega arith
list_not_write_fault (fault ∷ faults) is = not_write_fault (judgement_of fault) is

pub list_not_memory : (faults : List Fault) → first_status faults ≡ 7 → ⊥
list_not_memory [] is = omega arith
list_not_memory (fault ∷ faults) is = elim (low_status (judgement_of fault)) [ inl one ↦ omega arith | inr three ↦ omega arith ]

pub list_own : (faults : List Fault) → first_status faults < 4
list_own [] = omega arith
list_own (fault ∷ faults) = elim (low_status (judgement_of fault)) [ inl one ↦ omega arith | inr three ↦ omega arith ]

-- Lines.

-- they were written whole
pub told_whole : (text : List ℕ) (wanted status : ℕ) (err : Change) (result : Result Unit Cut) → result ≡ Ok tt → status ≡ wanted → (wanted ≡ 5 → ⊥)
    → Writes text err result
    → Tells text wanted err status
told_whole text wanted status err result was is own writes = record {
  status_is = inl is;
  told = λ _. (subst (Writes text err) was writes).written;
  failed = λ five. absurd (own (sym is ∙ five));
  part = λ five. absurd (own (sym is ∙ five));
}

-- they were cut off
pub told_in_part : (text : List ℕ) (wanted : ℕ) (err : Change) (result : Result Unit Cut) (cut : Cut) → result ≡ Err cut → cut ≡ WriteFault → (wanted ≡ 5 → ⊥)
    → Writes text err result
    → Tells text wanted err 5
told_in_part text wanted err result cut was cause own writes =
    let writes_cut : Writes text err (Err cut) = subst (Writes text err) was writes in record {
      status_is = inr refl;
      told = λ is. absurd (own (sym is));
      failed = λ _. writes_cut.written.cause cause;
      part = λ _. writes_cut.written.part;
    }

-- a judgement that is a case of page 0 is told as one
pub case_told : (told : Judgement) (name : Unsupported) (err : Change) (status : ℕ) → told ≡ LeftOut name 0
    → (Tells (judgement_line told) (judgement_status told) err status ⊎ Tells memory_line 7 err status)
    → (Tells (unsupported_line name 0) 3 err status ⊎ Tells memory_line 7 err status)
case_told told name err status is tells =
    subst (λ (it : Judgement). Tells (judgement_line it) (judgement_status it) err status ⊎ Tells memory_line 7 err status) is tells

-- the case that a row is judged as is its own
pub case_is : (fault : Fault) (case : Option Unsupported) (name : Unsupported) (page : ℕ) → judged_as fault case ≡ LeftOut name page → case ≡ Some name
case_is fault None name page is = cc
case_is fault (Some other) name page is = cc
