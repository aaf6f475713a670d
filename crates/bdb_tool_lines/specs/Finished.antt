-- How an answer is written: to the output, or to the error sink. Source: man/bdbtool.1.
use Rattle.std.specs.Prelude.{◌≡◌, ◌≢◌, ◌⊎◌, ℕ, List, [], Result, Ok, Err}
use Rattle.bdb_faults.specs.of_format.Terms.{judgement_seen}
use Rattle.bdb_faults.specs.declared.refusals.FirstError.{FirstError}
use Rattle.bdb_faults.specs.declared.refusals.FirstError.TheVariants.{Fault as FirstFault, Memory as FirstMemory}
use Rattle.bdb_model.specs.Answers.{Answer}
use Rattle.bdb_model.specs.Change.{Change, Gains, GainsPart, HasFailed}
use Rattle.bdb_model.specs.Lines.{memory_line, write_fault_line}
use Rattle.bdb_tool_lines.specs.Telling.{judgement_line, judgement_status}
use Rattle.bdb_tool_lines.specs.declared.cut.Cut.{Cut}
use Rattle.bdb_tool_lines.specs.declared.cut.Cut.TheVariants.{WriteFault, Memory}

-- a text was written to the error sink for this status, or that sink failed
pub record Tells (text : List ℕ) (wanted : ℕ) (err : Change) (status : ℕ) : Type 0 where
  pub status_is : (status ≡ wanted) ⊎ (status ≡ 5)
  pub told : status ≡ wanted → Gains err text
  pub failed : status ≡ 5 → HasFailed err
  pub part : status ≡ 5 → GainsPart err text

-- it was told how a text was written: nothing where it was written whole
abbrev pub Reports : Result Unit Cut → Change → ℕ → Type 0
Reports (Ok unit) err status = (status ≡ 0) × Gains err []
Reports (Err WriteFault) err status = (status ≡ 5) × ((HasFailed err → ⊥) → Gains err write_fault_line) × GainsPart err write_fault_line
Reports (Err Memory) err status = Tells memory_line 7 err status

-- an answer was written to the output and the error sink, or one of them failed, or memory ran out
pub record Finishes (answer : Answer) (out err : Change) (status : ℕ) : Type 0 where
  pub status_is : (status ≡ answer.status) ⊎ ((status ≡ 5) ⊎ (status ≡ 7))
  pub printed : status ≡ answer.status → Gains out answer.out
  pub told : status ≡ answer.status → Gains err answer.err
  pub part : GainsPart out answer.out
  pub failed : status ≡ 5 → HasFailed out ⊎ HasFailed err
  pub write_fault_line_told : status ≡ 5 → (HasFailed err → ⊥) → Gains err write_fault_line
  pub error_line_begun : status ≡ 5 → GainsPart err write_fault_line ⊎ (GainsPart err memory_line ⊎ GainsPart err answer.err)
  pub memory : status ≡ 7 → Gains err memory_line

-- an answer's status is none that the outside or memory gives
pub record HasOwnStatus (answer : Answer) : Type 0 where
  pub no_read_fault : answer.status ≢ 4
  pub no_write_fault : answer.status ≢ 5
  pub no_memory : answer.status ≢ 7

-- what holds first was told, or that memory ran out
abbrev pub IsRefused : FirstError → Change → ℕ → Type 0
IsRefused (FirstFault named) err status =
    Tells (judgement_line (judgement_seen named)) (judgement_status (judgement_seen named)) err status ⊎ Tells memory_line 7 err status
IsRefused FirstMemory err status = Tells memory_line 7 err status
