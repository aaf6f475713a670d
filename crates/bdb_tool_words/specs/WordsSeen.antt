-- What the values of the code are in the definitions of a command line's words.
use Rattle.std.specs.Prelude.{ℕ, ◌≡◌, ◌<◌, ◌≤◌, ◌^◌, not, map, List, Option, Some, IfSome, IsTrue, is_some, option_copied, ⊤}
use Rattle.bdb_any_order.specs.declared.rows.Rows.TheVariants.{All}
use Rattle.bdb_model.specs.of_format.Terms.{is_page_size}
use Rattle.bdb_survey.specs.declared.guess.Guess.{Guess}
use Rattle.bdb_model.specs.of_text_format.Terms.{bytes_spelled}
use Rattle.bdb_tool_words.specs.ArgumentsSeen.{option_seen}
use Rattle.bdb_tool_words.specs.Commands.{Action, Command, CommandRow, Convert, ListAll, Load, LoadOnto, Repair, Request, Salvage, Stat, Survey, Trial, Verify}
use Rattle.bdb_tool_words.specs.Commands.{asked_name, asking, bounds_request, command_of, key_request, text_request, within}
use Rattle.bdb_tool_words.specs.declared.command.CommandRow.{CommandRow as CodeRow}
use Rattle.bdb_tool_words.specs.declared.command.Reading.{Reading}
use Rattle.bdb_tool_words.specs.declared.command.Reading.TheVariants.{Verify as VerifyWord, List as ListWord, Get as FindWord, Dump as DumpWord}
use Rattle.bdb_tool_words.specs.declared.command.Request.{Request as CodeRequest}
use Rattle.bdb_tool_words.specs.declared.command.Request.TheVariants.{Get as GetWord, Range as RangeWord, Convert as ConvertWord, Stat as StatWord}
use Rattle.bdb_tool_words.specs.declared.command.Action.{Action as CodeAction}
use Rattle.bdb_tool_words.specs.declared.command.Action.TheVariants.{Ask as AskWord, Read as ReadWord, Load as LoadWord, LoadOnto as LoadOntoWord}
use Rattle.bdb_tool_words.specs.declared.command.Action.TheVariants.{Salvage as SalvageWord, Repair as RepairWord, Survey as SurveyWord, Trial as TrialWord}
use Rattle.bdb_tool_words.specs.declared.command.Command.{Command as CodeCommand}
use Rattle.bdb_tool_words.specs.declared.command.Repair.{Repair as CodeRepair}
use Rattle.bdb_tool_words.specs.declared.command.Salvage.{Salvage as CodeSalvage}
use Rattle.bdb_tool_words.specs.declared.command.Trial.{Trial as CodeTrial}

-- the row of the table
abbrev pub row_seen : CodeRow → CommandRow
row_seen row = record { name = row.name; word = row.word.now; options = map option_seen row.options.now; operands = row.operands }

abbrev pub reading_seen : Reading → Option Request
reading_seen VerifyWord = Some Verify
reading_seen ListWord = Some ListAll
reading_seen (FindWord it) = key_request (asked_name (option_copied it.name)) (bytes_spelled (not it.hex) it.key.now) it.print
reading_seen (DumpWord it) = text_request (asked_name (option_copied it.name)) it.print

abbrev pub request_seen : CodeRequest → Option Request
request_seen (GetWord it) = key_request (asked_name (option_copied it.name)) (bytes_spelled (not it.hex) it.key.now) it.print
request_seen (RangeWord it) =
    bounds_request (asked_name (option_copied it.name)) (bytes_spelled (not it.hex) it.from.now) (bytes_spelled (not it.hex) it.to.now) it.print
request_seen (ConvertWord order) = Some (Convert order)
request_seen StatWord = Some Stat

abbrev pub action_seen : CodeAction → Option Action
action_seen (ReadWord rows reading) = asking rows (reading_seen reading)
action_seen (AskWord request) = asking All (request_seen request)
action_seen LoadWord = Some Load
action_seen (LoadOntoWord file) = Some (LoadOnto file.now)
action_seen (SalvageWord asked) = Some (Salvage asked)
action_seen (RepairWord asked) = Some (Repair asked)
action_seen (SurveyWord guess) = Some (Survey guess)
action_seen (TrialWord trial) = Some (Trial trial)

-- what is seen of an action is what a command does
abbrev pub IsActionSeen : Option Action → CodeAction → Type 0
IsActionSeen does action = (does ≡ action_seen action) × IsTrue (is_some (action_seen action))

abbrev pub command_seen : CodeCommand → Option Command
command_seen command = within (Some command.limit) (action_seen command.action)

-- what is seen of a command is the command that the words are
abbrev pub IsSeen : Option Command → CodeCommand → Type 0
IsSeen words command = (words ≡ command_seen command) × IsTrue (is_some (command_seen command))

-- pairs can be generated from the seed, so many
pub record IsFitTrial (trial : CodeTrial) : Type 0 where
  pub seed : trial.seed < 2 ^ 31
  pub count : trial.count ≤ 200000

-- the guess that is given has a legal page size
abbrev pub IsFitGuess : Option Guess → Type 0
IsFitGuess guess = IfSome guess (λ it. IsTrue (is_page_size it.page_size))

abbrev pub IsFitSalvage : CodeSalvage → Type 0
IsFitSalvage asked = IsFitGuess asked.guess

abbrev pub IsFitRepair : CodeRepair → Type 0
IsFitRepair asked = IsFitGuess asked.guess

abbrev pub IsFitAction : CodeAction → Type 0
IsFitAction (SalvageWord asked) = IsFitSalvage asked
IsFitAction (RepairWord asked) = IsFitRepair asked
IsFitAction (SurveyWord guess) = IsFitGuess guess
IsFitAction (TrialWord trial) = IsFitTrial trial
IsFitAction action = ⊤

-- what is done can be done, within a limit
pub record IsFitCommand (command : CodeCommand) : Type 0 where
  pub limit : command.limit ≤ 2 ^ 30
  pub action : IsFitAction command.action

-- the words are a command that reads a base, with this limit
pub record AreOnto (words : List (List ℕ)) (limit : ℕ) : Type 0 where
  pub file : List ℕ
  pub command_is : command_of words ≡ Some (record { limit = limit; action = LoadOnto file })
  pub within : limit ≤ 2 ^ 30
