-- From the words and the source to a task.
use Rattle.std.proofs.Common.{◌≡◌, ℕ, ◌+◌, false, true, List, refl, subst, sym, ◌∙◌, ap, Option, Some, None, IsTrue, is_some}
use Rattle.bdb_repair.specs.of_model.Change.{Change}
use Rattle.bdb_tool_words.specs.Commands.{Action, Ask, Command, Load, Repair, Request, Salvage, Survey, asking, handed, reads_input, within}
use Rattle.bdb_repair.specs.of_any_order.declared.rows.Rows.{Rows}
use Rattle.bdb_repair.specs.of_any_order.declared.rows.Rows.TheVariants.{All}
use Rattle.bdb_repair.specs.of_format.Terms.{Took}
use Rattle.bdb_repair.specs.of_survey.declared.guess.Guess.{Guess}
use Rattle.bdb_tool_words.specs.declared.command.Action.TheVariants.{Ask as AskWord, Load as LoadWord, Read as ReadWord, Repair as RepairWord, Salvage as SalvageWord}
use Rattle.bdb_tool_words.specs.declared.command.Action.TheVariants.{Survey as SurveyWord}
use Rattle.bdb_tool_words.specs.declared.command.Reading.{Reading}
use Rattle.bdb_tool_words.specs.declared.command.Request.{Request as CodeRequest}
use Rattle.bdb_tool_words.specs.declared.command.Repair.{Repair as CodeRepair}
use Rattle.bdb_tool_words.specs.declared.command.Salvage.{Salvage as CodeSalvage}
use Rattle.bdb_tool.specs.declared.task.Stop.{Stop}
use Rattle.bdb_tool.specs.declared.task.Stop.TheVariants.{Usage, TooLarge, ReadFault, Memory}
use Rattle.bdb_tool.specs.Tasks.{AreReading, IsAsked, IsInputWithin, IsStopped, IsUnreadable}
use Rattle.bdb_tool_words.specs.WordsSeen.{IsSeen, reading_seen, request_seen}

abbrev made : ℕ → Action → Command
made limit action = record { limit = limit; action = action }

-- a command that asks something
asks : (limit : ℕ) (rows : Rows) (request : Option Request) → IsTrue (is_some (within (Some limit) (asking rows request)))
    → (asked : Request) × (request ≡ Some asked)
asks limit rows None is = absurd cc
asks limit rows (Some asked) is = (asked, refl)

-- a command that reads its input
abbrev reading : (said : Option Command) (limit : ℕ) (action : Action) → said ≡ Some (made limit action) → reads_input action ≡ true → AreReading said
reading said limit action is reads = record { command = made limit action; command_is = is; reads = reads }

-- the words say this, by what is asked
abbrev IsSaid : Option Command → ℕ → Rows → Option Request → Type 0
IsSaid said limit rows request =
    (said ≡ within (Some limit) (asking rows request)) × IsTrue (is_some (within (Some limit) (asking rows request)))

said_is : (said : Option Command) (limit : ℕ) (rows : Rows) (request : Option Request) (asked : Request) → said ≡ within (Some limit) (asking rows request)
    → request ≡ Some asked → handed false said ≡ Some (made limit (Ask rows asked))
said_is said limit rows request asked is same = ap (handed false) (is ∙ ap (λ it. within (Some limit) (asking rows it)) same)

asked_input : (said : Option Command) (source : Change) (limit : ℕ) (rows : Rows) (request : Option Request) (image : List ℕ)
    → IsSaid said limit rows request → IsInputWithin limit source image → IsAsked (handed false said) source rows request image
asked_input said source limit rows request image seen input =
    let asked = asks limit rows request seen.1 in
    record {
      limit = limit;
      asked = asked.0;
      seen = asked.1;
      read = record { command_is = said_is said limit rows request asked.0 seen.0 asked.1; reads = refl; input_is = input };
    }

pub is_asked : (said : Option Command) (source : Change) (limit : ℕ) (request : CodeRequest) (image : List ℕ)
    → IsSeen said (record { limit = limit; action = AskWord request }) → IsInputWithin limit source image
    → IsAsked (handed false said) source All (request_seen request) image
is_asked said source limit request image seen input = asked_input said source limit All (request_seen request) image seen input

pub is_read : (said : Option Command) (source : Change) (limit : ℕ) (rows : Rows) (reading : Reading) (image : List ℕ)
    → IsSeen said (record { limit = limit; action = ReadWord rows reading }) → IsInputWithin limit source image
    → IsAsked (handed false said) source rows (reading_seen reading) image
is_read said source limit rows reading image seen input = asked_input said source limit rows (reading_seen reading) image seen input

-- no input, of a command that reads it
pub not_read : (said : Option Command) (source : Change) (limit : ℕ) (action : Action) (stop : Stop) → said ≡ Some (made limit action)
    → reads_input action ≡ true → IsUnreadable limit source stop → IsStopped said source stop
not_read said source limit action Usage is reads unread = absurd unread
not_read said source limit action (TooLarge longest) is reads unread =
    record {
      reading = reading said limit action is reads;
      limit_is = unread.0;
      took = subst (λ n. Took (n + 1) source.before source.now) (sym unread.0)
          unread.1;
    }
not_read said source limit action ReadFault is reads unread = (reading said limit action is reads, unread)
not_read said source limit action Memory is reads unread = reading said limit action is reads

no_input : (said : Option Command) (source : Change) (limit : ℕ) (rows : Rows) (request : Option Request) (stop : Stop)
    → IsSaid said limit rows request → IsUnreadable limit source stop → IsStopped (handed false said) source stop
no_input said source limit rows request stop seen unread =
    let asked = asks limit rows request seen.1 in
    not_read (handed false said) source limit (Ask rows asked.0) stop (said_is said limit rows request asked.0 seen.0 asked.1) refl unread

pub asked_unread : (said : Option Command) (source : Change) (limit : ℕ) (request : CodeRequest) (stop : Stop)
    → IsSeen said (record { limit = limit; action = AskWord request }) → IsUnreadable limit source stop → IsStopped (handed false said) source stop
asked_unread said source limit request stop seen unread = no_input said source limit All (request_seen request) stop seen unread

pub reading_unread : (said : Option Command) (source : Change) (limit : ℕ) (rows : Rows) (reading : Reading) (stop : Stop)
    → IsSeen said (record { limit = limit; action = ReadWord rows reading }) → IsUnreadable limit source stop → IsStopped (handed false said) source stop
reading_unread said source limit rows reading stop seen unread = no_input said source limit rows (reading_seen reading) stop seen unread

pub text_unread : (said : Option Command) (source : Change) (limit : ℕ) (stop : Stop) → IsSeen (said) (record { limit = limit; action = LoadWord })
    → IsUnreadable limit source stop → IsStopped (handed false said) source stop
text_unread said source limit stop seen unread = not_read (handed false said) source limit Load stop (ap (handed false) seen.0) refl unread

pub salvage_unread : (said : Option Command) (source : Change) (limit : ℕ) (asked : CodeSalvage) (stop : Stop)
    → IsSeen (said) (record { limit = limit; action = SalvageWord asked }) → IsUnreadable limit source stop → IsStopped (handed false said) source stop
salvage_unread said source limit asked stop seen unread = not_read (handed false said) source limit (Salvage asked) stop (ap (handed false) seen.0) refl
    unread

pub repair_unread : (said : Option Command) (source : Change) (limit : ℕ) (asked : CodeRepair) (stop : Stop)
    → IsSeen said (record { limit = limit; action = RepairWord asked }) → IsUnreadable limit source stop → IsStopped (handed false said) source stop
repair_unread said source limit asked stop seen unread = not_read (handed false said) source limit (Repair asked) stop (ap (handed false) seen.0) refl
    unread

pub survey_unread : (said : Option Command) (source : Change) (limit : ℕ) (guess : Option Guess) (stop : Stop)
    → IsSeen said (record { limit = limit; action = SurveyWord guess }) → IsUnreadable limit source stop → IsStopped (handed false said) source stop
survey_unread said source limit guess stop seen unread = not_read (handed false said) source limit (Survey guess) stop (ap (handed false) seen.0) refl unread
