-- What a run takes from what the words say, and from the source, before it answers.
use Rattle.std.specs.Prelude.{◌≡◌, ℕ, ◌+◌, ◌≤◌, ◌^◌, IsTrue, true, List, length, Option, Some, None, is_some}
use Rattle.std.specs.Io.KnownBytes.{Consumes, IsAtEnd}
use Rattle.bdb_repair.specs.of_model.Change.{Change, HasFailed, IsUncalled}
use Rattle.bdb_tool_words.specs.Commands.{Ask, Command, Load, Repair, Request, Salvage, Survey, Trial, reads_input}
use Rattle.bdb_repair.specs.of_any_order.declared.rows.Rows.{Rows}
use Rattle.bdb_repair.specs.of_any_order.declared.rows.Rows.TheVariants.{All}
use Rattle.bdb_repair.specs.of_format.Terms.{Took}
use Rattle.bdb_repair.specs.of_survey.declared.guess.Guess.{Guess}
use Rattle.bdb_tool_words.specs.WordsSeen.{IsFitGuess, IsFitRepair, IsFitSalvage, IsFitTrial, reading_seen, request_seen}
use Rattle.bdb_tool_words.specs.declared.command.Repair.{Repair as CodeRepair}
use Rattle.bdb_tool_words.specs.declared.command.Salvage.{Salvage as CodeSalvage}
use Rattle.bdb_tool_words.specs.declared.command.Trial.{Trial as CodeTrial}
use Rattle.bdb_tool.specs.declared.task.Task.{Task}
use Rattle.bdb_tool.specs.declared.task.Task.TheVariants.{Ask as AskTask, Load as LoadTask, Read as ReadTask, Repair as RepairTask, Salvage as SalvageTask}
use Rattle.bdb_tool.specs.declared.task.Task.TheVariants.{Survey as SurveyTask, Trial as TrialTask}
use Rattle.bdb_tool.specs.declared.task.Stop.{Stop}
use Rattle.bdb_tool.specs.declared.task.Stop.TheVariants.{Usage, TooLarge, ReadFault, Memory}

-- Reading the input.

-- these bytes are what the source had, to its end and within a limit
pub record IsInputWithin (limit : ℕ) (source : Change) (input : List ℕ) : Type 0 where
  pub bytes : Consumes source.before source.now input
  pub end : IsAtEnd source.now
  pub within : length input ≤ limit

-- why there is no input within a limit
abbrev pub IsUnreadable : ℕ → Change → Stop → Type 0
IsUnreadable limit source Usage = ⊥
IsUnreadable limit source (TooLarge longest) = (longest ≡ limit) × Took (limit + 1) source.before source.now
IsUnreadable limit source ReadFault = HasFailed source
IsUnreadable limit source Memory = Unit {0}

-- Commands.

-- the words are a command that reads its input
pub record AreReading (said : Option Command) : Type 0 where
  pub command : Command
  pub command_is : said ≡ Some command
  pub reads : reads_input command.action ≡ true

-- the words are a command that reads its input, and these bytes are the input
pub record IsRead (said : Option Command) (source : Change) (command : Command) (input : List ℕ) : Type 0 where
  pub command_is : said ≡ Some command
  pub reads : reads_input command.action ≡ true
  pub input_is : IsInputWithin command.limit source input

-- the words are a command, of whose input one byte more than its limit was read
pub record IsTooLong (said : Option Command) (source : Change) (limit : ℕ) : Type 0 where
  pub reading : AreReading said
  pub limit_is : limit ≡ reading.command.limit
  pub took : Took (limit + 1) source.before source.now

-- why there is no task
abbrev pub IsStopped : Option Command → Change → Stop → Type 0
IsStopped said source Usage = (said ≡ None) × IsUncalled source
IsStopped said source (TooLarge limit) = IsTooLong said source limit
IsStopped said source ReadFault = AreReading said × HasFailed source
IsStopped said source Memory = AreReading said

-- Tasks.

-- the words ask this of a file, by the rows that count, and the image is the input
pub record IsAsked (said : Option Command) (source : Change) (rows : Rows) (request : Option Request) (image : List ℕ) : Type 0 where
  pub limit : ℕ
  pub asked : Request
  pub seen : request ≡ Some asked
  pub read : IsRead said source (record { limit = limit; action = Ask rows asked }) image

-- the words ask to load the text, which is the input
pub record IsTextRead (said : Option Command) (source : Change) (text : List ℕ) (limit : ℕ) : Type 0 where
  pub read : IsRead said source (record { limit = limit; action = Load }) text

-- the words ask to salvage the image, which is the input
pub record IsSalvageRead (said : Option Command) (source : Change) (asked : CodeSalvage) (image : List ℕ) : Type 0 where
  pub limit : ℕ
  pub read : IsRead said source (record { limit = limit; action = Salvage asked }) image

-- the words ask to repair the image, which is the input
pub record IsRepairRead (said : Option Command) (source : Change) (asked : CodeRepair) (image : List ℕ) (limit : ℕ) : Type 0 where
  pub read : IsRead said source (record { limit = limit; action = Repair asked }) image

-- the words ask what the image still has, which is the input
pub record IsSurveyRead (said : Option Command) (source : Change) (guess : Option Guess) (image : List ℕ) : Type 0 where
  pub limit : ℕ
  pub read : IsRead said source (record { limit = limit; action = Survey guess }) image

-- the words ask for a trial, and nothing was read
pub record IsTried (said : Option Command) (source : Change) (trial : CodeTrial) (limit : ℕ) : Type 0 where
  pub command_is : said ≡ Some (record { limit = limit; action = Trial trial })
  pub uncalled : IsUncalled source

-- what there is to do is what the words say
abbrev pub IsTaskTaken : Option Command → Change → Task → Type 0
IsTaskTaken said source (ReadTask rows reading image) = IsAsked said source rows (reading_seen reading) image
IsTaskTaken said source (AskTask request image) = IsAsked said source All (request_seen request) image
IsTaskTaken said source (LoadTask text limit) = IsTextRead said source text limit
IsTaskTaken said source (SalvageTask asked image) = IsSalvageRead said source asked image
IsTaskTaken said source (RepairTask asked image limit) = IsRepairRead said source asked image limit
IsTaskTaken said source (SurveyTask guess image) = IsSurveyRead said source guess image
IsTaskTaken said source (TrialTask trial limit) = IsTried said source trial limit

-- a request that was read of words, of an image that isn't too long
pub record IsFitAsk (request : Option Request) (image : List ℕ) : Type 0 where
  pub seen : IsTrue (is_some request)
  pub size : length image ≤ 2 ^ 30

pub record IsFitLoad (text : List ℕ) (limit : ℕ) : Type 0 where
  pub size : length text ≤ 2 ^ 30
  pub within : limit ≤ 2 ^ 30

pub record IsFitToRepair (asked : CodeRepair) (image : List ℕ) (limit : ℕ) : Type 0 where
  pub guess : IsFitRepair asked
  pub size : length image ≤ 2 ^ 30
  pub within : limit ≤ 2 ^ 30

-- a task that can be done
abbrev pub IsFitTask : Task → Type 0
IsFitTask (ReadTask rows reading image) = IsFitAsk (reading_seen reading) image
IsFitTask (AskTask request image) = IsFitAsk (request_seen request) image
IsFitTask (LoadTask text limit) = IsFitLoad text limit
IsFitTask (SalvageTask asked image) = IsFitSalvage asked × (length image ≤ 2 ^ 30)
IsFitTask (RepairTask asked image limit) = IsFitToRepair asked image limit
IsFitTask (SurveyTask guess image) = IsFitGuess guess × (length image ≤ 2 ^ 30)
IsFitTask (TrialTask trial limit) = IsFitTrial trial × (limit ≤ 2 ^ 30)
