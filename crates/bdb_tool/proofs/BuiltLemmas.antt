-- Answers of the commands that build a file, and of `salvage` and `survey`.
use Rattle.std.proofs.Common.{◌≡◌, ◌⊎◌, ℕ, Bool, true, false, List, [], ◌∷◌, map, refl, sym, subst, arith, inl, inr, Option, Some, None, Ok, Err, MatchResult, Result, nat_lt, codes, string_bytes}
use Rattle.bdb_repair.specs.of_text_format.Terms.{line, text_fault}
use Rattle.bdb_repair.specs.of_model.Answers.{Answer, done, fault_line, told, unsupported_line}
use Rattle.bdb_repair.specs.of_model.Change.{Change}
use Rattle.bdb_repair.specs.of_model.Lines.{memory_line}
use Rattle.bdb_repair.specs.of_apart.Found.{Found, found}
use Rattle.bdb_repair.specs.of_apart.Given.{FoundIn, found_in}
use Rattle.bdb_repair.specs.of_apart.Text.{apart_text, rest_text}
use Rattle.bdb_repair.specs.of_format.declared.kinds.Unsupported.{Unsupported}
use Rattle.bdb_repair.specs.of_rescue.Kept.{Reading}
use Rattle.bdb_tool_words.specs.declared.command.Parts.{Parts}
use Rattle.bdb_tool_words.specs.declared.command.Parts.TheVariants as parts
use Rattle.bdb_repair.specs.of_format.Terms.{Faulty, Judgement, LeftOut, verdict_of}
use Rattle.bdb_repair.specs.of_rescue.Text.{salvage_text}
use Rattle.bdb_repair.specs.of_rescue.Guesses.{chosen, unsupported_case}
use Rattle.bdb_repair.specs.of_survey.declared.guess.Guess.{Guess}
use Rattle.bdb_tool.specs.Outputs.{apart_answer, extract_answer, extract_by, no_metadata, parts_answer, salvage_answer, salvaged_answer, survey_answer}
use Rattle.bdb_tool.specs.Outputs.{unless_unsupported}
use Rattle.bdb_tool.specs.declared.salvaging.Extract.{Extract}
use Rattle.bdb_tool.specs.declared.salvaging.Extract.TheVariants as extract
use Rattle.bdb_tool_ask.specs.of_tool_print.Survey.{survey_text}
use Rattle.bdb_tool_ask.specs.of_tool_lines.Finished.{Finishes, HasOwnStatus, Reports, Tells}
use Rattle.bdb_tool.specs.Parts.{Answered, Ends, IsImageTold, IsRefusalTold, Unanswered}
use Rattle.bdb_repair.specs.of_format.declared.kinds.Kind.{Kind}
use Rattle.bdb_repair.proofs.of_format.KnownLemmas.{keeps_itself}
use Rattle.bdb_repair.specs.of_text_format.declared.faults.TextFault.{TextFault}
use Rattle.bdb_repair.specs.of_text_format.declared.sections.Section.{Section}
use Rattle.bdb_repair.specs.of_settle.declared.load_error.LoadError.{LoadError}
use Rattle.bdb_repair.specs.of_settle.declared.load_error.LoadError.TheVariants.{TooLarge, Memory as MemoryError}
use Rattle.bdb_repair.specs.of_mkfile.Builds.{image_size}
use Rattle.bdb_repair.specs.of_mkfile.Loading.{loading_error}
use Rattle.bdb_tool_build.specs.declared.refusal.Refusal.{Refusal}
use Rattle.bdb_tool_build.specs.declared.refusal.Refusal.TheVariants.{Faulty as FaultyText, TooLarge as TooLargeImage, Memory as MemoryRefusal}
use Rattle.bdb_tool_build.specs.Loads.{IsLoadAnswerBy, IsErrorAnswer, IsLoadAnswer, IsTextAnswer}
use Rattle.bdb_tool_build.specs.of_onto.declared.base.Base.{Base}
use Rattle.bdb_tool_build.specs.of_onto.Bases.{base_of}
use Rattle.bdb_tool_build.specs.of_onto.Onto.{loading_error_onto}
use Rattle.bdb_tool_build.specs.Ontos.{IsLoadOnto, IsTextOntoBy}
use Rattle.bdb_tool.specs.Ontos.{IsOntoBy}
use Rattle.bdb_tool_build.specs.Refusals.{IsRefusedAnswer}
use Rattle.bdb_tool_build.specs.Trials.{IsTrialAnswer, IsTrialBy, trial_sections}
use Rattle.bdb_tool_ask.proofs.of_tool_lines.FinishLemmas.{low_own, memory_finishes, told_finishes, written_finishes}
use Rattle.bdb_tool_ask.specs.of_tool_lines.declared.cut.Cut.{Cut}
use Rattle.bdb_tool_ask.specs.of_tool_lines.Printing.{Writes}
use Rattle.bdb_tool_ask.proofs.of_tool_lines.PrintingLemmas.{moved}

-- Commands that build a file.

bad_own : (text : List ℕ) (answer : Answer) → answer ≡ told 8 text → HasOwnStatus answer
bad_own text answer is = rw is (record { no_read_fault = λ four. omega arith; no_write_fault = λ five. omega arith; no_memory = λ seven. omega arith })

large_own : (text : List ℕ) (answer : Answer) → answer ≡ told 6 text → HasOwnStatus answer
large_own text answer is = rw is (record { no_read_fault = λ four. omega arith; no_write_fault = λ five. omega arith; no_memory = λ seven. omega arith })

done_own : (text : List ℕ) (answer : Answer) → answer ≡ done text → HasOwnStatus answer
done_own text answer is = rw is (low_own (done text) (omega arith))

error_own : (limit : ℕ) (error : LoadError) (answer : Answer) → IsErrorAnswer limit error answer → HasOwnStatus answer
error_own limit TooLarge answer is = large_own _ answer is
error_own limit MemoryError answer is = absurd is
error_own limit error answer is = bad_own _ answer is

load_own : (limit : ℕ) (error : Option LoadError) (sections : List Section) (answer : Answer) → IsLoadAnswer limit error sections answer → HasOwnStatus answer
load_own limit (Some error) sections answer is = error_own limit error answer is
load_own limit None sections answer is = done_own is.image answer is.answer_is

text_own_by : (limit : ℕ) (fault : Option TextFault) (text : List ℕ) (answer : Answer) → IsLoadAnswerBy limit fault text answer → HasOwnStatus answer
text_own_by limit (Some fault) text answer is = bad_own _ answer is
text_own_by limit None text answer is = load_own limit (loading_error limit is.sections) is.sections answer is.answered

pub text_own : (limit : ℕ) (text : List ℕ) (answer : Answer) → IsTextAnswer limit text answer → HasOwnStatus answer
text_own limit text answer is = text_own_by limit (text_fault text) text answer is

onto_load_own : (limit : ℕ) (error : Option LoadError) (base : Base) (sections : List Section) (answer : Answer) → IsLoadOnto limit error base sections answer
    → HasOwnStatus answer
onto_load_own limit (Some error) base sections answer is = error_own limit error answer is
onto_load_own limit None base sections answer is = done_own is.image answer is.answer_is

onto_text_own : (limit : ℕ) (base : Base) (fault : Option TextFault) (text : List ℕ) (answer : Answer) → IsTextOntoBy limit base fault text answer
    → HasOwnStatus answer
onto_text_own limit base (Some fault) text answer is = bad_own _ answer is
onto_text_own limit base None text answer is = onto_load_own limit (loading_error_onto limit base is.sections) base is.sections answer is.answered

onto_own_by : (limit : ℕ) (verdict : Option Judgement) (text image : List ℕ) (answer : Answer) → IsOntoBy limit verdict text image answer → HasOwnStatus answer
onto_own_by limit (Some (Faulty fault)) text image answer is = rw is (low_own (told 1 (fault_line fault)) (omega arith))
onto_own_by limit (Some (LeftOut name page)) text image answer is = rw is (low_own (told 3 (unsupported_line name page)) (omega arith))
onto_own_by limit None text image answer is = onto_text_own limit (base_of image) (text_fault text) text answer is

pub onto_own : (limit : ℕ) (text image : List ℕ) (answer : Answer) → IsOntoBy limit (verdict_of image) text image answer → HasOwnStatus answer
onto_own limit text image answer is = onto_own_by limit (verdict_of image) text image answer is

trial_own_by : (beyond : Bool) (limit : ℕ) (kind : Kind) (seed count : ℕ) (answer : Answer) → IsTrialBy beyond limit kind seed count answer
    → HasOwnStatus answer
trial_own_by true limit kind seed count answer is = large_own _ answer is
trial_own_by false limit kind seed count answer is = done_own _ answer is.answer_is

pub trial_own : (limit : ℕ) (kind : Kind) (seed count : ℕ) (answer : Answer) → IsTrialAnswer limit kind seed count answer → HasOwnStatus answer
trial_own limit kind seed count answer is = trial_own_by (nat_lt limit (image_size (trial_sections kind seed count))) limit kind seed count answer is

-- an output was written, or cut off, and that was told
pub written_ends : (allowed : Answer → Type 0) (text : List ℕ) (out err : Change) (written : Result Unit Cut) (status : ℕ) → allowed (done text)
    → Writes text out written → Reports written err status → Ends allowed out err status
written_ends allowed text out err written status is writes reports = Answered (done text) is (written_finishes text out err written status writes reports)

-- it was told why nothing is built
pub refusal_told : (refusal : Refusal) (written : Option (List ℕ)) (faults : ℕ) (err : Change) (status : ℕ) → IsRefusalTold refusal err status
    → IsImageTold (Err refusal) (moved written written faults faults) err status
refusal_told (FaultyText line) written faults err status tells =
    told_finishes 8 (string_bytes line) written faults err status (λ five. omega arith) (λ seven. omega arith) tells
refusal_told (TooLargeImage line) written faults err status tells =
    told_finishes 6 (string_bytes line) written faults err status (λ five. omega arith) (λ seven. omega arith) tells
refusal_told MemoryRefusal written faults err status tells = (keeps_itself written, tells)

-- an image that was built is an answer, and so is why there is none
pub image_ends : (allowed : Answer → Type 0) (result : Result (List ℕ) Refusal) (out err : Change) (status : ℕ)
    → MatchResult result (λ image. allowed (done image)) (IsRefusedAnswer allowed) → IsImageTold result out err status → Ends allowed out err status
image_ends allowed (Ok image) out err status is finishes = Answered (done image) is finishes
image_ends allowed (Err (FaultyText line)) out err status is finishes = Answered (told 8 (string_bytes line)) is finishes
image_ends allowed (Err (TooLargeImage line)) out err status is finishes = Answered (told 6 (string_bytes line)) is finishes
image_ends allowed (Err MemoryRefusal) out err status is memory = Unanswered memory.0 memory.1

pub refusal_ends : (allowed : Answer → Type 0) (refusal : Refusal) (written : Option (List ℕ)) (faults : ℕ) (err : Change) (status : ℕ)
    → IsRefusedAnswer allowed refusal → IsRefusalTold refusal err status
    → Ends allowed (moved written written faults faults) err status
refusal_ends allowed refusal written faults err status is tells =
    image_ends allowed (Err refusal) (moved written written faults faults) err status is (refusal_told refusal written faults err status tells)

-- `salvage`.

low_own_ten : HasOwnStatus no_metadata
low_own_ten = record { no_read_fault = λ four. omega arith; no_write_fault = λ five. omega arith; no_memory = λ seven. omega arith }

pub salvaged_own : (guess : Option Guess) (print : Bool) (image : List ℕ) → HasOwnStatus (salvaged_answer guess print image)
salvaged_own None print image = low_own_ten
salvaged_own (Some guess) print image = low_own (done (salvage_text print guess image)) (omega arith)

pub salvage_own : (guess : Option Guess) (print : Bool) (image : List ℕ) → HasOwnStatus (salvage_answer guess print image)
salvage_own guess print image = salvaged_own (chosen guess image) print image

-- What is told database by database.

apart_own : (dbs : List Found) (print : Bool) (reading : Reading) → HasOwnStatus (apart_answer dbs print reading)
apart_own [] print reading = low_own_ten
apart_own (first ∷ others) print reading = low_own (done (apart_text print reading.guess reading.image)) (omega arith)

known_own : (it : Extract) (reading : Reading) → HasOwnStatus (extract_answer it reading)
known_own (extract.Apart print) reading = apart_own (found reading) print reading
known_own (extract.Rest print) reading = low_own (done (rest_text print reading.guess reading.image)) (omega arith)
known_own (extract.Survey case) reading = low_own (done (survey_text case reading)) (omega arith)

pub extract_own : (guess : Option Guess) (it : Extract) (image : List ℕ) → HasOwnStatus (extract_by guess it image)
extract_own None it image = low_own_ten
extract_own (Some guess) it image = known_own it (record { guess = guess; image = image })

unless_own : (left : Option Unsupported) (answer : Answer) → HasOwnStatus answer → HasOwnStatus (unless_unsupported left answer)
unless_own None answer own = own
unless_own (Some name) answer own = low_own (told 3 (unsupported_line name 0)) (omega arith)

supported_own : (guess : Option Guess) (it : Extract) (image : List ℕ)
    → HasOwnStatus (unless_unsupported (unsupported_case guess image) (extract_by (chosen guess image) it image))
supported_own guess it image =
    unless_own (unsupported_case guess image) (extract_by (chosen guess image) it image) (extract_own (chosen guess image) it image)

pub parts_own : (it : Parts) (guess : Option Guess) (print : Bool) (image : List ℕ) → HasOwnStatus (parts_answer it guess print image)
parts_own parts.Together guess print image = salvage_own guess print image
parts_own parts.Apart guess print image = supported_own guess (extract.Apart print) image
parts_own parts.Rest guess print image = supported_own guess (extract.Rest print) image

pub survey_own : (guess : Option Guess) (image : List ℕ) → HasOwnStatus (survey_answer guess image)
survey_own guess image = extract_own (chosen guess image) (extract.Survey (unsupported_case None image)) image

-- it was told that there is no metadata page
pub no_meta_finishes : (answer : Answer) (written : Option (List ℕ)) (faults : ℕ) (err : Change) (status : ℕ) → answer ≡ no_metadata
    → Tells (line (codes "no metadata page")) 10 err status → Finishes answer (moved written written faults faults) err status
no_meta_finishes answer written faults err status is tells =
    subst (λ it. Finishes it (moved written written faults faults) err status) (sym is)
    (told_finishes 10 (line (codes "no metadata page")) written faults err status (λ five. omega arith) (λ seven. omega arith) tells)

-- no database is found
pub no_database : (reading : Reading) (print : Bool) → found_in reading ≡ [] → apart_answer (found reading) print reading ≡ no_metadata
no_database reading print none = by_list (found reading) none
  where
    by_list : (dbs : List Found) → ◌≡◌ {A = List FoundIn} (map (λ db. record { reading = reading; db = db }) dbs) []
        → apart_answer dbs print reading ≡ no_metadata
    by_list [] none = refl
    by_list (db ∷ dbs) none = absurd (cc none)

-- where one is found the text of all was written, or cut off, and that was told
pub apart_finishes : (reading : Reading) (print : Bool) (first : FoundIn) (others : List FoundIn) (out err : Change) (written : Result Unit Cut) (status : ℕ)
    → found_in reading ≡ first ∷ others → Writes (apart_text print reading.guess reading.image) out written → Reports written err status
    → Finishes (apart_answer (found reading) print reading) out err status
apart_finishes reading print first others out err written status some writes reports = by_list (found reading) some
  where
    by_list : (dbs : List Found) → map (λ db. record { reading = reading; db = db }) dbs ≡ first ∷ others
        → Finishes (apart_answer dbs print reading) out err status
    by_list [] none = absurd (cc none)
    by_list (db ∷ dbs) some = written_finishes (apart_text print reading.guess reading.image) out err written status writes reports

-- what is told of a reading that is another's
pub known_as : (it : Extract) (reading now : Reading) (out err : Change) (status : ℕ) → reading ≡ now → Finishes (extract_answer it reading) out err status
    → Finishes (extract_answer it now) out err status
known_as it reading now out err status same finishes = subst (λ (r : Reading). Finishes (extract_answer it r) out err status) same finishes

pub known_memory : (it : Extract) (reading : Reading) (written : Option (List ℕ)) (faults : ℕ) (err : Change) (status : ℕ) → Tells memory_line 7 err status
    → Finishes (extract_answer it reading) (moved written written faults faults) err status
known_memory it reading written faults err status tells = memory_finishes (extract_answer it reading) written faults err status (known_own it reading) tells

-- A case that page 0 names.

pub case_told : (name : Unsupported) (written : Option (List ℕ)) (faults : ℕ) (err : Change) (status : ℕ) → Tells (unsupported_line name 0) 3 err status
    → Finishes (told 3 (unsupported_line name 0)) (moved written written faults faults) err status
case_told name written faults err status tells =
    told_finishes 3 (unsupported_line name 0) written faults err status (λ five. omega arith) (λ seven. omega arith) tells

pub case_finishes : (left : Option Unsupported) (name : Unsupported) (answer : Answer) (written : Option (List ℕ)) (faults : ℕ) (err : Change) (status : ℕ)
    → Some name ≡ left → (Tells (unsupported_line name 0) 3 err status ⊎ Tells memory_line 7 err status)
    → Finishes (unless_unsupported left answer) (moved written written faults faults) err status
case_finishes left name answer written faults err status is tells =
    subst (λ it. Finishes (unless_unsupported it answer) (moved written written faults faults) err status) is
    (elim tells [
      | inl case ↦ case_told name written faults err status case
      | inr memory ↦
          memory_finishes (told 3 (unsupported_line name 0)) written faults err status (low_own (told 3 (unsupported_line name 0)) (omega arith)) memory
    ])

pub no_case_finishes : (left : Option Unsupported) (answer : Answer) (out err : Change) (status : ℕ) → None ≡ left → Finishes answer out err status
    → Finishes (unless_unsupported left answer) out err status
no_case_finishes left answer out err status none finishes = subst (λ it. Finishes (unless_unsupported it answer) out err status) none finishes
