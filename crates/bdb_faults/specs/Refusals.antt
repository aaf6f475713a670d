-- What a file is refused for by the faults of a stage: the first, or all of them. Source: docs/FORMAT.md, "Faults".
use Rattle.std.proofs.Common.{arith, subst, sym, ◌∙◌}
use Rattle.std.specs.Prelude.{◌≡◌, ◌<◌, Bool, true, false, List, [], ◌∷◌, length, Some}
use Rattle.bdb_format.specs.declared.kinds.CheckError.{CheckError}
use Rattle.bdb_format.specs.declared.kinds.CheckError.TheVariants.{Fault as CheckFault, Memory as CheckMemory}
use Rattle.bdb_format.specs.declared.kinds.Fault.{Fault}
use Rattle.bdb_format.specs.declared.kinds.Verdict.{Verdict}
use Rattle.bdb_format.specs.declared.kinds.Verdict.TheVariants.{Memory as VerdictMemory}
use Rattle.bdb_format.specs.Terms.{IsFirstOf, as_verdict, fault_seen, first_fault, judgement_seen}
use Rattle.bdb_faults.specs.declared.refusals.AllError.{AllError}
use Rattle.bdb_faults.specs.declared.refusals.AllError.TheVariants.{Faults, Memory as AllMemory}
use Rattle.bdb_faults.specs.declared.refusals.FirstError.{FirstError}
use Rattle.bdb_faults.specs.declared.refusals.FirstError.TheVariants.{Fault as FirstFault, Memory as FirstMemory}

-- what the refusal by the first is for a part of a file, and for a file
abbrev pub check_error : FirstError → CheckError
check_error (FirstFault named) = CheckFault (fault_seen named)
check_error FirstMemory = CheckMemory

abbrev pub first_verdict : FirstError → Verdict
first_verdict (FirstFault named) = as_verdict (judgement_seen named)
first_verdict FirstMemory = VerdictMemory

-- it is the first of these faults, or lack of memory
abbrev pub IsFirstRefusal : List Fault → FirstError → Type 0
IsFirstRefusal faults error = IsFirstOf faults (check_error error)

abbrev pub is_first_memory : FirstError → Bool
is_first_memory (FirstFault named) = false
is_first_memory FirstMemory = true

-- the same faults are refused alike
pub first_alike : (xs ys : List Fault) (error : FirstError) → ((xs ≡ [] → ⊥) → ys ≡ xs) → IsFirstRefusal xs error → IsFirstRefusal ys error
first_alike [] ys (FirstFault named) same is = absurd cc
first_alike (x ∷ xs) ys (FirstFault named) same is =
    subst (λ (fs : List Fault). first_fault fs ≡ Some (fault_seen named)) (sym (same (λ none. absurd cc))) is
first_alike xs ys FirstMemory same is = tt

-- a refusal has all of these faults, of which there is one at least; or memory ran out
abbrev pub IsAllOf : List Fault → AllError → Type 0
IsAllOf faults (Faults all) = (0 < length faults) × (all ≡ faults)
IsAllOf faults AllMemory = Unit {0}

abbrev pub is_all_memory : AllError → Bool
is_all_memory (Faults all) = false
is_all_memory AllMemory = true

pub all_alike : (xs ys : List Fault) (error : AllError) → ((xs ≡ [] → ⊥) → ys ≡ xs) → IsAllOf xs error → IsAllOf ys error
all_alike [] ys (Faults all) same is = absurd (omega (arith, is.0))
all_alike (x ∷ xs) ys (Faults all) same is =
    let they : ys ≡ x ∷ xs = same (λ none. absurd cc) in
    (subst (λ (fs : List Fault). 0 < length fs) (sym they) is.0, is.1 ∙ sym they)
all_alike xs ys AllMemory same is = tt
