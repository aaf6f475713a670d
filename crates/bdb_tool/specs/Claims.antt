-- How many pages a run reads for claims at most: each whole page of its input once. Source: docs/FORMAT.md, "Salvage".
use Rattle.std.specs.Prelude.{◌≡◌, ◌⊎◌, ◌+◌, ◌≤◌, ⊤, ℕ, List, Option, Some, None}
use Rattle.bdb_repair.specs.Claims.{claim_pages}
use Rattle.bdb_repair.specs.of_model.Change.{Change}
use Rattle.bdb_repair.specs.of_survey.declared.guess.Guess.{Guess}
use Rattle.bdb_tool_words.specs.Commands.{Action, Ask, Command, Load, LoadOnto, Repair, Salvage, Survey, Trial}
use Rattle.bdb_tool_words.specs.declared.command.Built.{Built}
use Rattle.bdb_tool_words.specs.declared.command.Built.TheVariants.{Each, Shaped}
use Rattle.bdb_tool.specs.Tasks.{IsInputWithin}
use Rattle.bdb_tool.specs.declared.task.Task.{Task}
use Rattle.bdb_tool.specs.declared.task.Task.TheVariants.{Ask as AskTask, Load as LoadTask, Read as ReadTask, Repair as RepairTask, Salvage as SalvageTask}
use Rattle.bdb_tool.specs.declared.task.Task.TheVariants.{Survey as SurveyTask, Trial as TrialTask}

-- the guess that is given to a repair that finds databases: it builds each
abbrev pub built_guess : Built → Option Guess → Option (Option Guess)
built_guess Each guess = Some guess
built_guess (Shaped shape) guess = None

-- the guess that is given, or that none is, to a command whose steps are the pages that it reads for claims; no other command has one
abbrev pub claims_guess : Action → Option (Option Guess)
claims_guess (Ask rows request) = None
claims_guess Load = None
claims_guess (LoadOnto file) = None
claims_guess (Salvage asked) = Some asked.guess
claims_guess (Repair asked) = built_guess asked.built asked.guess
claims_guess (Survey guess) = Some guess
claims_guess (Trial asked) = None

-- the steps on an image are at most one for each of its whole pages, by such a guess
abbrev pub ReadsWithin : Option (Option Guess) → List ℕ → ℕ → ℕ → Type 0
ReadsWithin None image old new = ⊤
ReadsWithin (Some guess) image old new = new ≤ old + claim_pages guess image

-- the steps of a task
abbrev pub TaskReads : Task → ℕ → ℕ → Type 0
TaskReads (ReadTask rows reading image) old new = ⊤
TaskReads (AskTask request image) old new = ⊤
TaskReads (LoadTask text limit) old new = ⊤
TaskReads (SalvageTask asked image) old new = ReadsWithin (Some asked.guess) image old new
TaskReads (RepairTask asked image limit) old new = ReadsWithin (built_guess asked.built asked.guess) image old new
TaskReads (SurveyTask guess image) old new = ReadsWithin (Some guess) image old new
TaskReads (TrialTask trial limit) old new = ⊤

-- there was no step, or at most one for each whole page of what the source had, to its end and within the limit
abbrev pub ReadsOnce : Option Guess → ℕ → Change → ℕ → ℕ → Type 0
ReadsOnce guess limit source old new = (new ≡ old) ⊎ ((input : List ℕ) × IsInputWithin limit source input × (new ≤ old + claim_pages guess input))

-- the steps of a command with such a guess
abbrev pub CommandReads : Option (Option Guess) → ℕ → Change → ℕ → ℕ → Type 0
CommandReads None limit source old new = ⊤
CommandReads (Some guess) limit source old new = ReadsOnce guess limit source old new

-- the steps of a run, by what the words are; words that are no command take none
abbrev pub RunReads : Option Command → Change → ℕ → ℕ → Type 0
RunReads None source old new = new ≡ old
RunReads (Some command) source old new = CommandReads (claims_guess command.action) command.limit source old new
