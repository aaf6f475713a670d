-- The two halves of a run: what it takes from the words and the source, and how it writes the answer.
use Rattle.std.specs.Prelude.{◌≡◌, ◌⊎◌, ℕ, ◌+◌, ◌&&◌, Bool, false, true, if◌then◌else◌, List, Option, None, Some, Result, Ok, Err, codes, string_bytes}
use Rattle.bdb_repair.specs.Apart.{IsRepairedApart}
use Rattle.bdb_repair.specs.Repairs.{IsRepaired}
use Rattle.bdb_repair.specs.of_format.declared.kinds.Unsupported.{Unsupported}
use Rattle.bdb_repair.specs.of_rescue.Guesses.{is_queue_or_master, unsupported_case}
use Rattle.bdb_repair.specs.of_survey.declared.guess.Guess.{Guess}
use Rattle.bdb_repair.specs.of_text_format.Terms.{line}
use Rattle.bdb_tool_words.specs.declared.command.Built.{Built}
use Rattle.bdb_tool_words.specs.declared.command.Built.TheVariants.{Each, Shaped}
use Rattle.bdb_tool.specs.declared.repairing.RepairRefusal.{RepairRefusal}
use Rattle.bdb_tool.specs.declared.repairing.RepairRefusal.TheVariants.{Case, NotOne}
use Rattle.bdb_repair.specs.of_any_order.declared.rows.Rows.TheVariants.{All}
use Rattle.bdb_repair.specs.of_model.Answers.{Answer, done, told, too_large_line, unsupported_line}
use Rattle.bdb_tool_words.specs.Commands.{Request, usage}
use Rattle.bdb_repair.specs.of_model.Change.{Change, HasFailed, Stays}
use Rattle.bdb_repair.specs.of_model.Lines.{memory_line, read_fault_line}
use Rattle.bdb_repair.specs.of_format.Terms.{Took, verdict_of}
use Rattle.bdb_tool.specs.Ontos.{IsOntoBy, base_too_large_line}
use Rattle.bdb_tool_ask.specs.FileAnswers.{asked_answer}
use Rattle.bdb_repair.specs.declared.error.RepairError.{RepairError}
use Rattle.bdb_repair.specs.declared.error.RepairError.TheVariants.{NoMeta, TooLarge as TooLargeFile, Memory as WantOfMemory}
use Rattle.bdb_tool_build.specs.Lines.{image_too_large_line}
use Rattle.bdb_tool.specs.Outputs.{IsRepairAnswer, no_metadata, parts_answer, survey_answer}
use Rattle.bdb_tool.specs.Tasks.{IsInputWithin}
use Rattle.bdb_tool_words.specs.WordsSeen.{reading_seen, request_seen}
use Rattle.bdb_tool.specs.declared.task.Task.{Task}
use Rattle.bdb_tool.specs.declared.task.Task.TheVariants.{Ask as AskTask, Load as LoadTask, Read as ReadTask, Repair as RepairTask, Salvage as SalvageTask}
use Rattle.bdb_tool.specs.declared.task.Task.TheVariants.{Survey as SurveyTask, Trial as TrialTask}
use Rattle.bdb_tool.specs.declared.task.Stop.{Stop}
use Rattle.bdb_tool.specs.declared.task.Stop.TheVariants.{Usage, TooLarge, ReadFault, Memory as MemoryStop}
use Rattle.bdb_tool_build.specs.declared.refusal.Refusal.{Refusal}
use Rattle.bdb_tool_build.specs.declared.refusal.Refusal.TheVariants.{Faulty as FaultyText, TooLarge as TooLargeImage, Memory as MemoryRefusal}
use Rattle.bdb_tool_build.specs.Loads.{IsTextAnswer}
use Rattle.bdb_tool_build.specs.Trials.{IsTrialAnswer}
use Rattle.bdb_tool_ask.specs.of_tool_lines.Finished.{Finishes, Tells}

-- the line of an input that is longer than a limit, or of a base that is
abbrev pub too_long_line : Bool → ℕ → List ℕ
too_long_line true limit = base_too_large_line limit
too_long_line false limit = too_large_line limit

-- it was told why there is no task to answer, or that memory ran out
abbrev pub IsToldStop : Stop → Change → ℕ → Type 0
IsToldStop Usage err status = Tells usage.err 2 err status
IsToldStop (TooLarge limit) err status = Tells (too_large_line limit) 6 err status ⊎ Tells memory_line 7 err status
IsToldStop ReadFault err status = Tells read_fault_line 4 err status
IsToldStop MemoryStop err status = Tells memory_line 7 err status

-- it was told why a base isn't read, or that memory ran out
abbrev pub IsToldOfBase : Stop → Change → ℕ → Type 0
IsToldOfBase Usage err status = IsToldStop Usage err status
IsToldOfBase (TooLarge limit) err status = Tells (base_too_large_line limit) 6 err status ⊎ Tells memory_line 7 err status
IsToldOfBase ReadFault err status = IsToldStop ReadFault err status
IsToldOfBase MemoryStop err status = IsToldStop MemoryStop err status

-- it was told why nothing is built
abbrev pub IsRefusalTold : Refusal → Change → ℕ → Type 0
IsRefusalTold (FaultyText line) err status = Tells (string_bytes line) 8 err status
IsRefusalTold (TooLargeImage line) err status = Tells (string_bytes line) 6 err status
IsRefusalTold MemoryRefusal err status = Tells memory_line 7 err status

-- an image that was built was written, or it was told why there is none, or that memory ran out
abbrev pub IsImageTold : Result (List ℕ) Refusal → Change → Change → ℕ → Type 0
IsImageTold (Ok built) out err status = Finishes (done built) out err status
IsImageTold (Err (FaultyText line)) out err status = Finishes (told 8 (string_bytes line)) out err status
IsImageTold (Err (TooLargeImage line)) out err status = Finishes (told 6 (string_bytes line)) out err status
IsImageTold (Err MemoryRefusal) out err status = Stays out × Tells memory_line 7 err status

-- why nothing was built was told, or that memory ran out
abbrev pub TellsWhy : ℕ → RepairError → Change → ℕ → Type 0
TellsWhy limit NoMeta err status = Tells no_metadata.err 10 err status
TellsWhy limit TooLargeFile err status = Tells (image_too_large_line limit) 6 err status ⊎ Tells memory_line 7 err status
TellsWhy limit WantOfMemory err status = Tells memory_line 7 err status

-- an image that was built was written, or it was told why there is none, or that memory ran out
abbrev pub IsBuiltTold : ℕ → Result (List ℕ) RepairError → Change → Change → ℕ → Type 0
IsBuiltTold limit (Ok built) out err status = Finishes (done built) out err status
IsBuiltTold limit (Err NoMeta) out err status = Finishes no_metadata out err status
IsBuiltTold limit (Err TooLargeFile) out err status =
    Finishes (told 6 (image_too_large_line limit)) out err status ⊎ (Stays out × Tells memory_line 7 err status)
IsBuiltTold limit (Err WantOfMemory) out err status = Stays out × Tells memory_line 7 err status

-- why an image isn't repaired: page 0 names a case that isn't supported, or one database is asked for and the file isn't one
abbrev pub refusal_by : Bool → Option Unsupported → Bool → Option RepairRefusal
refusal_by one (Some name) other = Some (Case name)
refusal_by one None other = if one && other then Some NotOne else None

abbrev pub repair_refusal : Built → Option Guess → List ℕ → Option RepairRefusal
repair_refusal Each guess image = refusal_by false (unsupported_case guess image) (is_queue_or_master guess image)
repair_refusal (Shaped None) guess image = None
repair_refusal (Shaped (Some shape)) guess image = refusal_by true (unsupported_case guess image) (is_queue_or_master guess image)

abbrev pub refused_answer : RepairRefusal → Answer
refused_answer (Case name) = told 3 (unsupported_line name 0)
refused_answer NotOne = told 14 (line (codes "not one btree, hash or recno"))

-- what is built where nothing refuses it
abbrev pub IsRepairBuilt : ℕ → Built → Option Guess → List ℕ → Result (List ℕ) RepairError → Type 0
IsRepairBuilt limit Each guess image built = IsRepairedApart limit guess image built
IsRepairBuilt limit (Shaped shape) guess image built = IsRepaired limit shape guess image built

-- one of the answers that are allowed was written, or memory ran out before one was known
pub data Ends (allowed : Answer → Type 0) (out err : Change) (status : ℕ) : Type 0 where
  Answered : (answer : Answer) → allowed answer → Finishes answer out err status → Ends allowed out err status
  Unanswered : Stays out → Tells memory_line 7 err status → Ends allowed out err status

-- how a text that was read was loaded onto a base: an answer was written, or memory ran out; the base was too long, which was told; it failed; or
-- memory ran out to read it
pub data EndsOnto (limit : ℕ) (text : List ℕ) (base out err : Change) (status : ℕ) : Type 0 where
  BaseRead : (image : List ℕ) → IsInputWithin limit base image → Ends (IsOntoBy limit (verdict_of image) text image) out err status
      → EndsOnto limit text base out err status
  BaseTooLong : Took (limit + 1) base.before base.now → Finishes (told 6 (base_too_large_line limit)) out err status → EndsOnto limit text base out err status
  BaseFailed : HasFailed base → Stays out → Tells read_fault_line 4 err status → EndsOnto limit text base out err status
  BaseUnread : Stays out → Tells memory_line 7 err status → EndsOnto limit text base out err status

-- a task was answered
abbrev pub IsTaskAnswered : Task → Change → Change → ℕ → Type 0
IsTaskAnswered (ReadTask rows reading image) out err status =
    (asked : Request) → reading_seen reading ≡ Some asked → Finishes (asked_answer rows asked image) out err status
IsTaskAnswered (AskTask request image) out err status =
    (asked : Request) → request_seen request ≡ Some asked → Finishes (asked_answer All asked image) out err status
IsTaskAnswered (LoadTask text limit) out err status = Ends (IsTextAnswer limit text) out err status
IsTaskAnswered (SalvageTask asked image) out err status = Finishes (parts_answer asked.parts asked.guess asked.print image) out err status
IsTaskAnswered (RepairTask asked image limit) out err status = Ends (IsRepairAnswer limit asked.built asked.guess image) out err status
IsTaskAnswered (SurveyTask guess image) out err status = Finishes (survey_answer guess image) out err status
IsTaskAnswered (TrialTask trial limit) out err status = Ends (IsTrialAnswer limit trial.kind trial.seed trial.count) out err status
