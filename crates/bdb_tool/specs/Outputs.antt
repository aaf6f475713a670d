-- The answers to words, an input and a base: a status, and what is written to the output and to the error sink. Source: man/bdbtool.1.
use Rattle.std.specs.Prelude.{◌≡◌, ◌⊎◌, ℕ, nat_lt, ◌&&◌, Bool, true, false, List, [], ◌∷◌, length, Option, Some, None, codes, is_some, unwrap_or, ⊤}
use Rattle.bdb_tool_words.specs.Commands.{Action, Ask, Command, Load, LoadOnto, Repair, Salvage, Survey, Trial, command_on, reads_input, usage}
use Rattle.bdb_repair.specs.of_model.Answers.{Answer, done, told, too_large_line, unsupported_line}
use Rattle.bdb_repair.specs.of_model.declared.shape.Shape.{Shape}
use Rattle.bdb_repair.specs.of_model.Change.{Change, Gains, GainsPart, Stays}
use Rattle.bdb_repair.specs.of_format.declared.kinds.Unsupported.{Unsupported}
use Rattle.bdb_repair.specs.of_text_format.Terms.{line}
use Rattle.bdb_repair.specs.of_apart.Found.{Found, found}
use Rattle.bdb_repair.specs.of_apart.Text.{apart_text, rest_text}
use Rattle.bdb_repair.specs.of_rescue.Kept.{Reading}
use Rattle.bdb_repair.specs.of_rescue.Text.{salvage_text}
use Rattle.bdb_repair.specs.of_mkfile.Builds.{image_size}
use Rattle.bdb_repair.specs.Apart.{apart_sections}
use Rattle.bdb_repair.specs.Parts.{repair_sections}
use Rattle.bdb_tool_words.specs.declared.command.Built.{Built}
use Rattle.bdb_tool_words.specs.declared.command.Built.TheVariants.{Each, Shaped}
use Rattle.bdb_tool_words.specs.declared.command.Parts.{Parts}
use Rattle.bdb_tool_words.specs.declared.command.Parts.TheVariants as parts
use Rattle.bdb_repair.specs.of_rescue.Guesses.{chosen, is_queue_or_master, unsupported_case}
use Rattle.bdb_repair.specs.of_survey.declared.guess.Guess.{Guess}
use Rattle.bdb_repair.specs.of_format.declared.kinds.Unsupported.{Unsupported}
use Rattle.bdb_repair.specs.of_text_format.declared.sections.Section.{Section}
use Rattle.bdb_tool.specs.Ontos.{IsOntoAnswer}
use Rattle.bdb_tool.specs.declared.salvaging.Extract.{Extract}
use Rattle.bdb_tool.specs.declared.salvaging.Extract.TheVariants as extract
use Rattle.bdb_tool_build.specs.Lines.{image_too_large_line}
use Rattle.bdb_tool_build.specs.Loads.{IsImageAnswer, IsTextAnswer}
use Rattle.bdb_tool_build.specs.Trials.{IsTrialAnswer}
use Rattle.bdb_tool_ask.specs.FileAnswers.{asked_answer}
use Rattle.bdb_tool_ask.specs.of_tool_print.Survey.{survey_text}

abbrev pub no_metadata : Answer
no_metadata = told 10 (line (codes "no metadata page"))

-- `salvage`: what is salvaged from an image by a guess, if there is one
abbrev pub salvaged_answer : Option Guess → Bool → List ℕ → Answer
salvaged_answer None print image = no_metadata
salvaged_answer (Some guess) print image = done (salvage_text print guess image)

-- the guess is the given one, or else that of page 0
abbrev pub salvage_answer : Option Guess → Bool → List ℕ → Answer
salvage_answer guess print image = salvaged_answer (chosen guess image) print image

-- where page 0 names an unsupported case, that is told
abbrev pub unless_unsupported : Option Unsupported → Answer → Answer
unless_unsupported None answer = answer
unless_unsupported (Some name) answer = told 3 (unsupported_line name 0)

-- of the databases that are found, where there are some
abbrev pub apart_answer : List Found → Bool → Reading → Answer
apart_answer [] print reading = no_metadata
apart_answer (first ∷ others) print reading = done (apart_text print reading.guess reading.image)

-- database by database: what is salvaged of each, what belongs to none, or what the image still has
abbrev pub extract_answer : Extract → Reading → Answer
extract_answer (extract.Apart print) reading = apart_answer (found reading) print reading
extract_answer (extract.Rest print) reading = done (rest_text print reading.guess reading.image)
extract_answer (extract.Survey case) reading = done (survey_text case reading)

-- of an image by a guess, if there is one
abbrev pub extract_by : Option Guess → Extract → List ℕ → Answer
extract_by None extract image = no_metadata
extract_by (Some guess) extract image = extract_answer extract (record { guess = guess; image = image })

-- by what is asked for
abbrev pub parts_answer : Parts → Option Guess → Bool → List ℕ → Answer
parts_answer parts.Together guess print image = salvage_answer guess print image
parts_answer parts.Apart guess print image =
    unless_unsupported (unsupported_case guess image) (extract_by (chosen guess image) (extract.Apart print) image)
parts_answer parts.Rest guess print image =
    unless_unsupported (unsupported_case guess image) (extract_by (chosen guess image) (extract.Rest print) image)

-- `survey`: the case that page 0 names is told beside all else, whatever guess is given
abbrev pub survey_answer : Option Guess → List ℕ → Answer
survey_answer guess image = extract_by (chosen guess image) (extract.Survey (unsupported_case None image)) image

-- `repair`: some image that is built of what is salvaged, by whether it would be too large
abbrev pub IsImageBy : Bool → ℕ → List Section → Answer → Type 0
IsImageBy true limit sections answer = answer ≡ told 6 (image_too_large_line limit)
IsImageBy false limit sections answer = IsImageAnswer sections answer

-- of the stored pairs and the loose records, by a guess, if there is one
abbrev pub IsRepairBy : ℕ → Option Shape → Option Guess → List ℕ → Answer → Type 0
IsRepairBy limit shape None image answer = answer ≡ no_metadata
IsRepairBy limit shape (Some guess) image answer =
    IsImageBy (nat_lt limit (image_size (repair_sections shape guess image))) limit (repair_sections shape guess image) answer

-- why no one database is made of a file: page 0 names a case that isn't supported, or is of a queue or a master
abbrev pub not_one : Option Unsupported → Bool → Option Answer
not_one (Some name) other = Some (told 3 (unsupported_line name 0))
not_one None true = Some (told 14 (line (codes "not one btree, hash or recno")))
not_one None false = None

-- only a repair that is asked for one database is refused so
abbrev pub shape_refusal : Option Shape → Option Guess → List ℕ → Option Answer
shape_refusal None guess image = None
shape_refusal (Some shape) guess image = not_one (unsupported_case guess image) (is_queue_or_master guess image)

-- the refusal, if there is one; the guess is that of `salvage`
abbrev pub IsRepairUnless : Option Answer → ℕ → Option Shape → Option Guess → List ℕ → Answer → Type 0
IsRepairUnless (Some refusal) limit shape guess image answer = answer ≡ refusal
IsRepairUnless None limit shape guess image answer = IsRepairBy limit shape (chosen guess image) image answer

abbrev pub IsShapedAnswer : ℕ → Option Shape → Option Guess → List ℕ → Answer → Type 0
IsShapedAnswer limit shape guess image answer = IsRepairUnless (shape_refusal shape guess image) limit shape guess image answer

-- of the databases that are found, where there are some
abbrev pub AreBuiltBy : ℕ → List Section → Answer → Type 0
AreBuiltBy limit [] answer = answer ≡ no_metadata
AreBuiltBy limit (first ∷ others) answer = IsImageBy (nat_lt limit (image_size (first ∷ others))) limit (first ∷ others) answer

abbrev pub IsApartAnswer : ℕ → Option Guess → List ℕ → Answer → Type 0
IsApartAnswer limit None image answer = answer ≡ no_metadata
IsApartAnswer limit (Some guess) image answer = AreBuiltBy limit (apart_sections guess image) answer

-- unless page 0 names an unsupported case
abbrev pub IsUnlessUnsupported : Option Unsupported → ℕ → Option Guess → List ℕ → Answer → Type 0
IsUnlessUnsupported None limit guess image answer = IsApartAnswer limit guess image answer
IsUnlessUnsupported (Some name) limit guess image answer = answer ≡ told 3 (unsupported_line name 0)

-- by what the new file has
abbrev pub IsRepairAnswer : ℕ → Built → Option Guess → List ℕ → Answer → Type 0
IsRepairAnswer limit Each guess image answer = IsUnlessUnsupported (unsupported_case guess image) limit (chosen guess image) image answer
IsRepairAnswer limit (Shaped shape) guess image answer = IsShapedAnswer limit shape guess image answer

-- an answer to an input that isn't too long, and a base, whose bytes are none where none is read; `load`, `repair` and `trial` may have several
abbrev pub IsActionAnswer : Action → ℕ → List ℕ → List ℕ → Answer → Type 0
IsActionAnswer (Ask rows request) limit input base answer = answer ≡ asked_answer rows request input
IsActionAnswer Load limit input base answer = IsTextAnswer limit input answer
IsActionAnswer (LoadOnto file) limit input base answer = IsOntoAnswer limit input base answer
IsActionAnswer (Salvage asked) limit input base answer = answer ≡ parts_answer asked.parts asked.guess asked.print input
IsActionAnswer (Repair asked) limit input base answer = IsRepairAnswer limit asked.built asked.guess input answer
IsActionAnswer (Survey guess) limit input base answer = answer ≡ survey_answer guess input
IsActionAnswer (Trial asked) limit input base answer = IsTrialAnswer limit asked.kind asked.seed asked.count answer

-- an answer to an input, by whether it is too long
abbrev pub IsAnswerBySize : Bool → Command → List ℕ → List ℕ → Answer → Type 0
IsAnswerBySize true command input base answer = answer ≡ told 6 (too_large_line command.limit)
IsAnswerBySize false command input base answer = IsActionAnswer command.action command.limit input base answer

abbrev pub is_too_long : Command → List ℕ → Bool
is_too_long command input = reads_input command.action && nat_lt command.limit (length input)

-- an answer to a command, or to words that are none
abbrev pub IsCommandAnswer : Option Command → List ℕ → List ℕ → Answer → Type 0
IsCommandAnswer None input base answer = answer ≡ usage
IsCommandAnswer (Some command) input base answer = IsAnswerBySize (is_too_long command input) command input base answer

-- what a run is asked: the command, unless the words are none, and the base that is handed in, with its bytes, or none and no bytes
pub record Asked : Type 0 where
  pub command : Option Command
  pub base : Option Change
  pub image : List ℕ

-- an answer to what is asked, and an input
abbrev pub IsAnswerTo : Asked → List ℕ → Answer → Type 0
IsAnswerTo asked input answer = IsCommandAnswer asked.command input asked.image answer

-- a status and two texts are an answer to what is asked, and this input
pub record Output (asked : Asked) (input out err : List ℕ) (status : ℕ) : Type 0 where
  pub answer : Answer
  pub answers : IsAnswerTo asked input answer
  pub out_is : out ≡ answer.out
  pub err_is : err ≡ answer.err
  pub status_is : status ≡ answer.status

-- the input is what the source had left; where it tells nothing, it may be any
abbrev pub IsInput : Option (List ℕ) → List ℕ → Type 0
IsInput None input = ⊤
IsInput (Some left) input = input ≡ left

-- the bytes of a base are what it had left, and none where none is handed in
abbrev pub IsBaseInput : Option Change → List ℕ → Type 0
IsBaseInput None image = image ≡ []
IsBaseInput (Some base) image = IsInput base.before image

-- the status and all that was written are an answer to what is asked, and the input
abbrev pub Answers : Asked → Change → Change → Change → ℕ → Type 0
Answers asked source out err status =
    (input : List ℕ) × IsInput source.before input × (written : List ℕ) × Gains out written × (told : List ℕ) × Gains err told
    × Output asked input written told status

-- what was written to the output is a prefix of an answer to what is asked, and the input, or nothing
abbrev pub AnswersInPart : Asked → Change → Change → Type 0
AnswersInPart asked source out =
    Stays out ⊎ ((input : List ℕ) × IsInput source.before input × (written : List ℕ) × (told : List ℕ) × (status : ℕ) × Output asked input written told status
    × GainsPart out written)

-- what is asked by words where no base is handed in
abbrev pub asked_alone : List (List ℕ) → Asked
asked_alone words = record { command = command_on words false; base = None; image = [] }

-- what is asked by words with a base of these bytes, or without one
abbrev pub asked_with : List (List ℕ) → Option (List ℕ) → Asked
asked_with words base = record { command = command_on words (is_some base); base = None; image = unwrap_or base [] }

-- the status of an answer to these words and this input, with a base of these bytes or without one, whatever is written
pub record StatusIs (words : List (List ℕ)) (base : Option (List ℕ)) (input : List ℕ) (status : ℕ) : Type 0 where
  pub written : List ℕ
  pub told : List ℕ
  pub answer : Output (asked_with words base) input written told status
