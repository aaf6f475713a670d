-- What `verify` tells.
use Rattle.std.proofs.Common.{◌≡◌, ℕ, ◌<◌, List, [], ◌∷◌, length, inl, inr, sym, subst, arith, ◌⊎◌, Option}
use Rattle.bdb_file.specs.of_faults.Refusals.{IsAllOf}
use Rattle.bdb_file.specs.of_faults.declared.refusals.AllError.{AllError}
use Rattle.bdb_file.specs.of_faults.declared.refusals.AllError.TheVariants.{Faults}
use Rattle.bdb_file.specs.of_any_order.AnyOrder.{faults_by_rows, verdict_by}
use Rattle.bdb_file.specs.of_any_order.declared.rows.Rows.{Rows}
use Rattle.bdb_file.specs.of_format.declared.kinds.Fault.{Fault}
use Rattle.bdb_tool_dump.specs.of_tool_lines.Telling.{first_status, faults_text}
use Rattle.bdb_tool_dump.proofs.of_tool_lines.PrintingLemmas.{moved}
use Rattle.bdb_tool_words.specs.of_model.Change.{Change}
use Rattle.bdb_tool_words.specs.Commands.{Request, Verify}
use Rattle.bdb_tool_words.specs.of_model.Lines.{memory_line}
use Rattle.bdb_tool_ask.specs.FileAnswers.{asked_answer, verified}
use Rattle.bdb_tool_dump.specs.of_tool_lines.Finished.{Finishes, HasOwnStatus, Tells}
use Rattle.bdb_tool_dump.proofs.of_tool_lines.FinishLemmas.{low_own, memory_finishes, told_finishes}
use Rattle.bdb_tool_ask.proofs.AnswerLemmas.{judged_own}
use Rattle.bdb_tool_dump.proofs.of_tool_lines.RefusalLemmas.{list_not_memory, list_not_write_fault, list_own}

pub verified_own : (faults : List Fault) (image : List ℕ) → HasOwnStatus (verified faults image)
verified_own [] image = low_own (verified [] image) (omega arith)
verified_own (fault ∷ faults) image = low_own (verified (fault ∷ faults) image) (list_own (fault ∷ faults))

pub asked_own : (rows : Rows) (request : Request) (image : List ℕ) → HasOwnStatus (asked_answer rows request image)
asked_own rows Verify image = verified_own (faults_by_rows rows image) image
asked_own rows request image = judged_own (verdict_by rows image) request image

-- a file without faults
pub sound_verified : (faults : List Fault) (file image : List ℕ) (out err : Change) (status : ℕ) → faults ≡ [] → file ≡ image
    → Finishes (verified [] file) out err status
    → Finishes (verified faults image) out err status
sound_verified faults file image out err status none same finishes =
    subst (λ (found : List Fault). Finishes (verified found image) out err status) (sym none)
    (subst (λ (bytes : List ℕ). Finishes (verified [] bytes) out err status) same finishes)

all_of : (faults : List Fault) (error : AllError) (all : List Fault) → error ≡ Faults all → IsAllOf faults error → (0 < length faults) × (all ≡ faults)
all_of faults error all is are = subst (IsAllOf faults) is are

-- all faults were told
faults_finish : (faults : List Fault) (image : List ℕ) (all : List Fault) (written : Option (List ℕ)) (count : ℕ) (err : Change) (status : ℕ)
    → (0 < length faults) × (all ≡ faults) → (Tells (faults_text all) (first_status all) err status ⊎ Tells memory_line 7 err status)
    → Finishes (verified faults image) (moved written written count count) err status
faults_finish [] image all written count err status are told = absurd (omega (arith, are.0))
faults_finish (fault ∷ faults) image all written count err status are (inl tells) =
    let list : List Fault = fault ∷ faults in
    told_finishes (first_status list) (faults_text list) written count err status (list_not_write_fault list) (list_not_memory list)
    (subst (λ (fs : List Fault). Tells (faults_text fs) (first_status fs) err status) are.1 tells)
faults_finish (fault ∷ faults) image all written count err status are (inr tells) =
    memory_finishes (verified (fault ∷ faults) image) written count err status (verified_own (fault ∷ faults) image) tells

-- the same, of a refusal
pub all_finish : (faults : List Fault) (image : List ℕ) (error : AllError) (all : List Fault) (written : Option (List ℕ)) (count : ℕ) (err : Change)
    (status : ℕ)
    → error ≡ Faults all → IsAllOf faults error → (Tells (faults_text all) (first_status all) err status ⊎ Tells memory_line 7 err status)
    → Finishes (verified faults image) (moved written written count count) err status
all_finish faults image error all written count err status is are told = faults_finish faults image all written count err status
    (all_of faults error all is are) told
