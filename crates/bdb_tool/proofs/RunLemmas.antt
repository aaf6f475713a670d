-- From what a run takes, and how it writes its answer, to its whole promise.
use Rattle.std.proofs.Common.{Bool, List, [], ap, append-nil, arith, false, inl, inr, length, length-append, refl, subst, sym, true, ℕ, ◌&&◌, ◌+◌, ◌<◌, ◌∙◌, ◌≡◌, ◌≢◌, ◌≤◌, ◌⊎◌}
use Rattle.std.specs.Prelude.{Option, Some, None, nat_lt}
use Rattle.std.specs.Io.KnownBytes.{Consumes, IsAtEnd}
use Rattle.std.proofs.lemmas.Bool.{le-ltb, lt-ltb}
use Rattle.bdb_repair.specs.of_model.Answers.{Answer, told, too_large_line}
use Rattle.bdb_tool_words.specs.Commands.{Ask, Command, Load, Repair, Salvage, Survey, Trial, reads_input, usage}
use Rattle.bdb_repair.specs.of_model.Change.{Change, GainsPart, HasFailed, IsUncalled, Stays}
use Rattle.bdb_repair.specs.of_any_order.declared.rows.Rows.TheVariants.{All}
use Rattle.bdb_repair.specs.of_format.Terms.{Rose, Took}
use Rattle.bdb_repair.specs.of_model.Lines.{memory_line, read_fault_line, write_fault_line}
use Rattle.bdb_repair.proofs.of_format.KnownLemmas.{keeps_itself}
use Rattle.bdb_tool_build.specs.Loads.{IsTextAnswer}
use Rattle.bdb_tool_build.specs.Trials.{IsTrialAnswer}
use Rattle.bdb_tool.specs.Outputs.{AnswersInPart, Asked, IsActionAnswer, IsAnswerBySize, IsAnswerTo, IsCommandAnswer, IsInput, IsRepairAnswer, Output, StatusIs, asked_alone, asked_with, parts_answer, survey_answer}
use Rattle.bdb_tool_ask.specs.FileAnswers.{asked_answer}
use Rattle.bdb_tool_ask.specs.of_tool_lines.Finished.{Finishes, Tells}
use Rattle.bdb_tool.specs.Parts.{Answered, Ends, IsTaskAnswered, IsToldStop, Unanswered}
use Rattle.bdb_tool.specs.Runs.{ErrorLine, HasFailedReading, IsAnswered, OfAnswer, OfMemory, OfReadFault, OfWriteFault, RunsAs, RunsOn, asked_on}
use Rattle.bdb_tool.specs.Tasks.{AreReading, IsRead, IsStopped, IsTaskTaken, IsTooLong}
use Rattle.bdb_tool_words.specs.declared.command.Repair.{Repair as CodeRepair}
use Rattle.bdb_tool_words.specs.declared.command.Trial.{Trial as CodeTrial}
use Rattle.bdb_tool.specs.declared.task.Stop.{Stop}
use Rattle.bdb_tool.specs.declared.task.Stop.TheVariants.{Usage, TooLarge, ReadFault, Memory as MemoryStop}
use Rattle.bdb_tool.specs.declared.task.Task.{Task}
use Rattle.bdb_tool.specs.declared.task.Task.TheVariants.{Ask as AskTask, Load as LoadTask, Read as ReadTask, Repair as RepairTask, Salvage as SalvageTask}
use Rattle.bdb_tool.specs.declared.task.Task.TheVariants.{Survey as SurveyTask, Trial as TrialTask}
use Rattle.bdb_tool_ask.proofs.TellingLemmas.{asked_own}
use Rattle.bdb_tool.proofs.BuiltLemmas.{parts_own, survey_own, text_own, trial_own}
use Rattle.bdb_tool_ask.proofs.of_tool_lines.FinishLemmas.{memory_finishes, told_finishes}
use Rattle.bdb_tool.proofs.RepairLemmas.{repair_own}
use Rattle.bdb_tool_ask.proofs.of_tool_lines.PrintingLemmas.{moved}

-- The input.

-- some input agrees with whatever the source tells
pub some_input : (left : Option (List ℕ)) → (input : List ℕ) × IsInput left input
some_input None = ([], tt)
some_input (Some left) = (left, refl)

-- what was read to the end is the input
pub whole_input : (before now : Option (List ℕ)) (image : List ℕ) → Consumes before now image → IsAtEnd now → IsInput before image
whole_input None now image took end = tt
whole_input (Some xs) None image took end = absurd took
whole_input (Some xs) (Some ys) image took end = sym (rw end at took ∙ append-nil image)

-- where one byte more than the limit was read, the input is longer than the limit
pub long_input : (limit : ℕ) (before now : Option (List ℕ)) → Took (limit + 1) before now → (input : List ℕ) × IsInput before input × (limit < length input)
long_input limit None now (bytes, took, len) = (bytes, tt, omega arith)
long_input limit (Some xs) None (bytes, took, len) = absurd took
long_input limit (Some xs) (Some ys) (bytes, took, len) =
    (xs, refl, rw took (omega (arith, len, length-append bytes ys)))

-- The answers.

output_of : (asks : Asked) (input : List ℕ) (answer : Answer) → IsAnswerTo asks input answer → Output asks input answer.out answer.err answer.status
output_of asks input answer is = record { answer = answer; answers = is; out_is = refl; err_is = refl; status_is = refl }

usage_answers : (asks : Asked) (input : List ℕ) → asks.command ≡ None → IsAnswerTo asks input usage
usage_answers asks input none = subst (λ command. IsCommandAnswer command input asks.image usage) (sym none) refl

command_answers : (asks : Asked) (input : List ℕ) (command : Command) (answer : Answer) → asks.command ≡ Some command
    → IsCommandAnswer (Some command) input asks.image answer → IsAnswerTo asks input answer
command_answers asks input command answer is answers = subst (λ it. IsCommandAnswer it input asks.image answer) (sym is) answers

within_limit : (reads : Bool) (limit : ℕ) (input : List ℕ) → length input ≤ limit → (reads && nat_lt limit (length input)) ≡ false
within_limit true limit input within = le-ltb limit (length input) within
within_limit false limit input within = refl

-- an answer to an input within the limit
pub within_answers : (asks : Asked) (input : List ℕ) (command : Command) (answer : Answer) → asks.command ≡ Some command → length input ≤ command.limit
    → IsActionAnswer command.action command.limit input asks.image answer
    → IsAnswerTo asks input answer
within_answers asks input command answer is within answers =
    command_answers asks input command answer is
    (subst (λ beyond. IsAnswerBySize beyond command input asks.image answer) (sym (within_limit (reads_input command.action) command.limit input within))
    answers)

beyond_limit : (reads : Bool) (limit : ℕ) (input : List ℕ) → reads ≡ true → limit < length input → (reads && nat_lt limit (length input)) ≡ true
beyond_limit true limit input is beyond = lt-ltb limit (length input) beyond
beyond_limit false limit input is beyond = absurd cc

-- the answer to an input beyond the limit
beyond_answers : (asks : Asked) (input : List ℕ) (command : Command) → asks.command ≡ Some command → reads_input command.action ≡ true
    → command.limit < length input
    → IsAnswerTo asks input (told 6 (too_large_line command.limit))
beyond_answers asks input command is reads beyond =
    command_answers asks input command (told 6 (too_large_line command.limit)) is
    (subst (λ it. IsAnswerBySize it command input asks.image (told 6 (too_large_line command.limit)))
    (sym (beyond_limit (reads_input command.action) command.limit input reads beyond)) refl)

-- no answer depends on the input of a command that reads none
unread_answers : (asks : Asked) (input : List ℕ) (command : Command) (answer : Answer) → asks.command ≡ Some command → reads_input command.action ≡ false
    → IsActionAnswer command.action command.limit input asks.image answer
    → IsAnswerTo asks input answer
unread_answers asks input command answer is unread answers =
    command_answers asks input command answer is
    (subst (λ beyond. IsAnswerBySize beyond command input asks.image answer) (sym (ap (λ reads. reads && nat_lt command.limit (length input)) unread)) answers)

-- The whole promise.

pub no_command : (asks : Asked) (command : Command) → asks.command ≡ Some command → asks.command ≡ None → ⊥
no_command asks command is none = let both : Some command ≡ None = sym is ∙ none in absurd cc

same_command : (asks : Asked) (a b : Command) → asks.command ≡ Some a → asks.command ≡ Some b → a ≡ b
same_command asks a b as_a as_b = let both : Some a ≡ Some b = sym as_a ∙ as_b in cc

reads_same : (asks : Asked) (a b : Command) → asks.command ≡ Some a → asks.command ≡ Some b → reads_input a.action ≡ reads_input b.action
reads_same asks a b as_a as_b = ap (λ (command : Command). reads_input command.action) (same_command asks a b as_a as_b)

both_ways : (reads : Bool) → reads ≡ true → reads ≡ false → ⊥
both_ways reads is other = let both : true ≡ false = sym is ∙ other in absurd cc

pub own_status : (answer : Answer) (out err : Change) (status : ℕ) → Finishes answer out err status → IsAnswered status → status ≡ answer.status
own_status answer out err status finishes answered =
    elim finishes.status_is [ inl is ↦ is | inr (inl five) ↦ absurd (answered.1 five) | inr (inr seven) ↦ absurd (answered.2 seven) ]

not_a_read_fault : (answer : Answer) (out err : Change) (status : ℕ) → answer.status ≢ 4 → Finishes answer out err status → status ≡ 4 → ⊥
not_a_read_fault answer out err status other finishes is =
    elim finishes.status_is [ inl own ↦ other (sym own ∙ is) | inr (inl five) ↦ omega arith | inr (inr seven) ↦ omega arith ]

begun_line : (asks : Asked) (source err : Change) (input : List ℕ) (answer : Answer) → IsInput source.before input → IsAnswerTo asks input answer
    → GainsPart err write_fault_line ⊎ (GainsPart err memory_line ⊎ GainsPart err answer.err)
    → (text : List ℕ) × ErrorLine asks source text × GainsPart err text
begun_line asks source err input answer is answers (inl part) = (write_fault_line, OfWriteFault refl, part)
begun_line asks source err input answer is answers (inr (inl part)) = (memory_line, OfMemory refl, part)
begun_line asks source err input answer is answers (inr (inr part)) = (
  answer.err,
  OfAnswer input answer.out answer.status is
      (output_of asks input answer answers),
  part,
)

-- when the source is called
pub record CallsSource (asks : Asked) (source : Change) (status : ℕ) : Type 0 where
  pub usage : asks.command ≡ None → ((status ≡ 2) ⊎ (status ≡ 5)) × IsUncalled source
  pub unread : (command : Command) → asks.command ≡ Some command → reads_input command.action ≡ false → IsUncalled source
  pub read_whole : (command : Command) → asks.command ≡ Some command → reads_input command.action ≡ true → IsAnswered status
      → IsAtEnd source.now ⊎ ((status ≡ 6) × Took (command.limit + 1) source.before source.now)

part_of : (asks : Asked) (source out : Change) (input : List ℕ) (answer : Answer) → IsInput source.before input → IsAnswerTo asks input answer
    → GainsPart out answer.out → AnswersInPart asks source out
part_of asks source out input answer is answers part = inr (input, is, answer.out, answer.err, answer.status, output_of asks input answer answers, part)

-- an answer that was written, or not whole
pub finished_runs : (asks : Asked) (source out err : Change) (input : List ℕ) (answer : Answer) (status : ℕ) → IsInput source.before input
    → IsAnswerTo asks input answer → answer.status ≢ 4 → Finishes answer out err status
    → CallsSource asks source status → RunsAs asks source out err status
finished_runs asks source out err input answer status is answers other finishes calls =
    record {
      answers = λ answered.
          let own : status ≡ answer.status = own_status answer out err status finishes answered in (
            input,
            is,
            answer.out,
            finishes.printed own,
            answer.err,
            finishes.told own,
            subst (Output asks input answer.out answer.err) (sym own) (output_of asks input answer answers),
          );
      read_fault = λ four. absurd (not_a_read_fault answer out err status other finishes four);
      write_fault = finishes.failed;
      part_on_fault = λ _. part_of asks source out input answer is answers finishes.part;
      write_fault_line_told = finishes.write_fault_line_told;
      error_line_begun = λ five _. begun_line asks source err input answer is answers (finishes.error_line_begun five);
      memory = λ seven. (part_of asks source out input answer is answers finishes.part, finishes.memory seven);
      usage = calls.usage;
      unread = calls.unread;
      read_whole = calls.read_whole;
    }

-- memory ran out before an answer was known
pub unanswered_runs : (asks : Asked) (source out err : Change) (status : ℕ) (command : Command) → asks.command ≡ Some command
    → (reads_input command.action ≡ false → IsUncalled source) → Stays out → Tells memory_line 7 err status
    → RunsAs asks source out err status
unanswered_runs asks source out err status command is uncalled stays tells = record {
  answers = λ answered. absurd (elim tells.status_is [ inl seven ↦ answered.2 seven | inr five ↦ answered.1 five ]);
  read_fault = λ four. absurd (elim tells.status_is [ inl seven ↦ omega arith | inr five ↦ omega arith ]);
  write_fault = λ five. inr (tells.failed five);
  part_on_fault = λ _. inl stays;
  write_fault_line_told = λ five unfailed. absurd (unfailed (tells.failed five));
  error_line_begun = λ five _. (memory_line, OfMemory refl, tells.part five);
  memory = λ seven. (inl stays, tells.told seven);
  usage = λ none. absurd (no_command asks command is none);
  unread = λ other other_is unread. uncalled (reads_same asks command other is other_is ∙ unread);
  read_whole = λ other other_is reads answered. absurd (elim tells.status_is [ inl seven ↦ answered.2 seven | inr five ↦ answered.1 five ]);
}

-- an answer of a relation was written, or memory ran out before one was known
pub ended_runs : (asks : Asked) (source out err : Change) (input : List ℕ) (command : Command) (allowed : Answer → Type 0) (status : ℕ)
    → IsInput source.before input → asks.command ≡ Some command
    → ((answer : Answer) → allowed answer → IsAnswerTo asks input answer × (answer.status ≢ 4)) → (reads_input command.action ≡ false → IsUncalled source)
    → CallsSource asks source status → Ends allowed out err status
    → RunsAs asks source out err status
ended_runs asks source out err input command allowed status is command_is answers uncalled calls (Answered answer allows finishes) =
    finished_runs asks source out err input answer status is (answers answer allows).0 (answers answer allows).1 finishes calls
ended_runs asks source out err input command allowed status is command_is answers uncalled calls (Unanswered stays tells) =
    unanswered_runs asks source out err status command command_is uncalled stays tells

-- a source that was read to its end
pub calls_read : (asks : Asked) (source : Change) (command : Command) (status : ℕ) → asks.command ≡ Some command → reads_input command.action ≡ true
    → IsAtEnd source.now → CallsSource asks source status
calls_read asks source command status is reads end = record {
  usage = λ none. absurd (no_command asks command is none);
  unread = λ other other_is unread. absurd (both_ways (reads_input command.action) reads (reads_same asks command other is other_is ∙ unread));
  read_whole = λ _ _ _ _. inl end;
}

-- a source that wasn't called
calls_nothing : (asks : Asked) (source : Change) (command : Command) (status : ℕ) → asks.command ≡ Some command → reads_input command.action ≡ false
    → IsUncalled source → CallsSource asks source status
calls_nothing asks source command status is unread uncalled = record {
  usage = λ none. absurd (no_command asks command is none);
  unread = λ _ _ _. uncalled;
  read_whole = λ other other_is reads. absurd (both_ways (reads_input command.action) (reads_same asks command other is other_is ∙ reads) unread);
}

-- what is asked of a file
asked_runs : (asks : Asked) (source out err : Change) (command : Command) (image : List ℕ) (answer : Answer) (status : ℕ)
    → IsRead asks.command source command image → IsActionAnswer command.action command.limit image asks.image answer → answer.status ≢ 4
    → Finishes answer out err status → RunsAs asks source out err status
asked_runs asks source out err command image answer status read answers other finishes =
    finished_runs asks source out err image answer status (whole_input source.before source.now image read.input_is.bytes read.input_is.end)
    (within_answers asks image command answer read.command_is read.input_is.within answers) other finishes
    (calls_read asks source command status read.command_is read.reads read.input_is.end)

-- a text that is loaded
loaded_runs : (asks : Asked) (source out err : Change) (limit : ℕ) (text : List ℕ) (status : ℕ)
    → IsRead asks.command source (record { limit = limit; action = Load }) text → Ends (IsTextAnswer limit text) out err status
    → RunsAs asks source out err status
loaded_runs asks source out err limit text status read ends =
    let command : Command = record { limit = limit; action = Load } in
    ended_runs asks source out err text command (IsTextAnswer limit text) status
    (whole_input source.before source.now text read.input_is.bytes read.input_is.end) read.command_is
    (λ answer allows. (within_answers asks text command answer read.command_is read.input_is.within allows, (text_own limit text answer allows).no_read_fault))
    (λ unread. absurd (both_ways true refl unread)) (calls_read asks source command status read.command_is read.reads read.input_is.end) ends

-- an image that is repaired
repaired_runs : (asks : Asked) (source out err : Change) (limit : ℕ) (asked : CodeRepair) (image : List ℕ) (status : ℕ)
    → IsRead asks.command source (record { limit = limit; action = Repair asked }) image
    → Ends (IsRepairAnswer limit asked.built asked.guess image) out err status
    → RunsAs asks source out err status
repaired_runs asks source out err limit asked image status read ends =
    let command : Command = record { limit = limit; action = Repair asked } in
    ended_runs asks source out err image command (IsRepairAnswer limit asked.built asked.guess image) status
    (whole_input source.before source.now image read.input_is.bytes read.input_is.end) read.command_is
    (λ answer allows. (
      within_answers asks image command answer read.command_is read.input_is.within allows,
      (repair_own limit asked.built asked.guess image answer allows).no_read_fault,
    )) (λ unread. absurd (both_ways true refl unread)) (calls_read asks source command status read.command_is read.reads read.input_is.end) ends

-- a trial
tried_runs : (asks : Asked) (source out err : Change) (limit : ℕ) (trial : CodeTrial) (status : ℕ)
    → asks.command ≡ Some (record { limit = limit; action = Trial trial }) → IsUncalled source
    → Ends (IsTrialAnswer limit trial.kind trial.seed trial.count) out err status → RunsAs asks source out err status
tried_runs asks source out err limit trial status is uncalled ends =
    let command : Command = record { limit = limit; action = Trial trial } in
    let input = some_input source.before in
    ended_runs asks source out err input.0 command (IsTrialAnswer limit trial.kind trial.seed trial.count) status input.1 is
    (λ answer allows. (
      unread_answers asks input.0 command answer is refl allows,
      (trial_own limit trial.kind trial.seed trial.count answer allows).no_read_fault,
    ))
    (λ _. uncalled) (calls_nothing asks source command status is refl uncalled) ends

pub taken_runs : (asks : Asked) (source out err : Change) (task : Task) (status : ℕ) → IsTaskTaken asks.command source task → IsTaskAnswered task out err status
    → RunsAs asks source out err status
taken_runs asks source out err (ReadTask rows reading image) status taken answered =
    let command : Command = record { limit = taken.limit; action = Ask rows taken.asked } in
    asked_runs asks source out err command image (asked_answer rows taken.asked image) status taken.read refl (asked_own rows taken.asked image).no_read_fault
    (answered taken.asked taken.seen)
taken_runs asks source out err (AskTask request image) status taken answered =
    let command : Command = record { limit = taken.limit; action = Ask All taken.asked } in
    asked_runs asks source out err command image (asked_answer All taken.asked image) status taken.read refl (asked_own All taken.asked image).no_read_fault
    (answered taken.asked taken.seen)
taken_runs asks source out err (LoadTask text limit) status taken answered = loaded_runs asks source out err limit text status taken.read answered
taken_runs asks source out err (SalvageTask asked image) status taken answered =
    let command : Command = record { limit = taken.limit; action = Salvage asked } in
    asked_runs asks source out err command image (parts_answer asked.parts asked.guess asked.print image) status taken.read refl
    (parts_own asked.parts asked.guess asked.print image).no_read_fault answered
taken_runs asks source out err (RepairTask asked image limit) status taken answered = repaired_runs asks source out err limit asked image status taken.read
    answered
taken_runs asks source out err (SurveyTask guess image) status taken answered =
    let command : Command = record { limit = taken.limit; action = Survey guess } in
    asked_runs asks source out err command image (survey_answer guess image) status taken.read refl (survey_own guess image).no_read_fault answered
taken_runs asks source out err (TrialTask trial limit) status taken answered = tried_runs asks source out err limit trial status taken.command_is taken.uncalled
    answered

-- words that are no command
usage_runs : (asks : Asked) (source err : Change) (written : Option (List ℕ)) (faults status : ℕ) → asks.command ≡ None → IsUncalled source
    → Finishes usage (moved written written faults faults) err status → ((status ≡ 2) ⊎ (status ≡ 5))
    → RunsAs asks source (moved written written faults faults) err status
usage_runs asks source err written faults status none uncalled finishes own =
    let input = some_input source.before in
    finished_runs asks source (moved written written faults faults) err input.0 usage status input.1 (usage_answers asks input.0 none) (λ four. omega arith)
    finishes
    (record {
      usage = λ _. (own, uncalled);
      unread = λ _ _ _. uncalled;
      read_whole = λ command some. absurd (no_command asks command some none);
    })

-- an input beyond the limit
too_long_runs : (asks : Asked) (source out err : Change) (limit status : ℕ) → IsTooLong asks.command source limit
    → Finishes (told 6 (too_large_line limit)) out err status → RunsAs asks source out err status
too_long_runs asks source out err limit status long finishes =
    let command = long.reading.command in
    let input = long_input limit source.before source.now long.took in
    let beyond : command.limit < length input.0 = subst (λ n. n < length input.0) long.limit_is input.2 in
    finished_runs asks source out err input.0 (told 6 (too_large_line limit)) status input.1
    (subst (λ n. IsAnswerTo asks input.0 (told 6 (too_large_line n))) (sym long.limit_is)
    (beyond_answers asks input.0 command long.reading.command_is long.reading.reads beyond)) (λ four. omega arith) finishes
    (record {
      usage = λ none. absurd (no_command asks command long.reading.command_is none);
      unread = λ other other_is unread. absurd (both_ways (reads_input command.action) long.reading.reads
          (reads_same asks command other long.reading.command_is other_is ∙ unread));
      read_whole = λ other other_is _ answered. inr (
        own_status (told 6 (too_large_line limit)) out err status finishes answered,
        subst (λ n. Took (n + 1) source.before source.now) (long.limit_is
            ∙ ap (λ (c : Command). c.limit) (same_command asks command other long.reading.command_is other_is)) long.took,
      );
    })

-- Where nothing is answered.

failed_reading : (source : Change) (base : Option Change) → HasFailed source → HasFailedReading source base
failed_reading source None failed = failed
failed_reading source (Some base) failed = inl failed

-- the source failed, or the base
pub read_fault_runs : (asks : Asked) (source out err : Change) (status : ℕ) → AreReading asks.command → HasFailedReading source asks.base → Stays out
    → Tells read_fault_line 4 err status
    → RunsAs asks source out err status
read_fault_runs asks source out err status are failed stays tells = record {
  answers = λ answered. absurd (elim tells.status_is [ inl four ↦ answered.0 four | inr five ↦ answered.1 five ]);
  read_fault = λ four. (failed, stays, tells.told four);
  write_fault = λ five. inr (tells.failed five);
  part_on_fault = λ _. inl (stays);
  write_fault_line_told = λ five unfailed. absurd (unfailed (tells.failed five));
  error_line_begun = λ five _. (read_fault_line, OfReadFault failed refl, tells.part five);
  memory = λ seven. absurd (elim tells.status_is [ inl four ↦ omega arith | inr five ↦ omega arith ]);
  usage = λ none. absurd (no_command asks are.command are.command_is none);
  unread = λ other other_is unread. absurd (both_ways (reads_input are.command.action) are.reads (reads_same asks are.command other are.command_is other_is
      ∙ unread));
  read_whole = λ _ _ _ answered. absurd (elim tells.status_is [ inl four ↦ answered.0 four | inr five ↦ answered.1 five ]);
}

-- memory ran out before there was a task
memory_runs : (asks : Asked) (source err : Change) (written : Option (List ℕ)) (faults status : ℕ) → AreReading asks.command → Tells memory_line 7 err status
    → RunsAs asks source (moved written written faults faults) err status
memory_runs asks source err written faults status are tells =
    unanswered_runs asks source (moved written written faults faults) err status are.command are.command_is
    (λ unread. absurd (both_ways (reads_input are.command.action) are.reads unread)) (keeps_itself written) tells

pub stopped_runs : (asks : Asked) (source err : Change) (written : Option (List ℕ)) (faults : ℕ) (stop : Stop) (status : ℕ) → IsStopped asks.command source stop
    → IsToldStop stop err status → RunsAs asks source (moved written written faults faults) err status
stopped_runs asks source err written faults Usage status stopped told_line =
    usage_runs asks source err written faults status stopped.0 stopped.1
    (told_finishes 2 usage.err written faults err status (λ is. omega arith) (λ is. omega arith) told_line) told_line.status_is
stopped_runs asks source err written faults (TooLarge limit) status stopped (inl told_line) =
    too_long_runs asks source (moved written written faults faults) err limit status stopped
    (told_finishes 6 (too_large_line limit) written faults err status (λ is. omega arith) (λ is. omega arith) told_line)
stopped_runs asks source err written faults (TooLarge limit) status stopped (inr told_memory) =
    too_long_runs asks source (moved written written faults faults) err limit status stopped
    (memory_finishes (told 6 (too_large_line limit)) written faults err status
    (record { no_read_fault = λ is. omega arith; no_write_fault = λ is. omega arith; no_memory = λ is. omega arith }) told_memory)
stopped_runs asks source err written faults ReadFault status stopped told_line = read_fault_runs asks source (moved written written faults faults) err status
    stopped.0 (failed_reading source asks.base stopped.1) (keeps_itself written) told_line
stopped_runs asks source err written faults MemoryStop status stopped told_line = memory_runs asks source err written faults status stopped told_line

-- Without faults.

pub never_rose : Rose 0 0 → ⊥
never_rose rose = elim rose [ inl more ↦ omega arith | inr last ↦ omega arith ]

-- what has no faults tells an answer, but for lack of memory
pub pure_status : (words : List (List ℕ)) (bytes : List ℕ) (source out err : Change) (status : ℕ) → RunsOn words source None out err status
    → source.before ≡ Some bytes → (HasFailed source → ⊥) → (HasFailed out → ⊥) → (HasFailed err → ⊥) → status ≢ 7
    → StatusIs words None bytes status
pure_status words bytes source out err status run before no_source no_out no_err no_memory =
    let runs : RunsAs (asked_alone words) source out err status = subst (λ image. RunsAs (asked_on words None image) source out err status) run.image_is
    run.runs in
    let found = runs.answers (
      λ four. no_source (runs.read_fault four).0,
      λ five. elim (runs.write_fault five)
          [ inl failed ↦ no_out failed | inr failed ↦ no_err failed ],
      no_memory,
    ) in
    record {
      written = found.2;
      told = found.4;
      answer = subst (λ input. Output (asked_alone words) input found.2 found.4 status) (subst (λ left. IsInput left found.0) before found.1) found.6;
    }

-- the change of a base has no part in an answer
with_base : (words : List (List ℕ)) (base : Change) (image input written told : List ℕ) (status : ℕ)
    → Output (asked_on words (Some base) image) input written told status → Output (asked_with words (Some image)) input written told status
with_base words base image input written told status output = record {
  answer = output.answer;
  answers = output.answers;
  out_is = output.out_is;
  err_is = output.err_is;
  status_is = output.status_is;
}

-- nor does it with a base that has none
pub pure_status_onto : (words : List (List ℕ)) (bytes image : List ℕ) (source base out err : Change) (status : ℕ)
    → RunsOn words source (Some base) out err status → source.before ≡ Some bytes → base.before ≡ Some image → (HasFailed source → ⊥)
    → (HasFailed base → ⊥) → (HasFailed out → ⊥) → (HasFailed err → ⊥) → status ≢ 7
    → StatusIs words (Some image) bytes status
pure_status_onto words bytes image source base out err status run before base_before no_source no_base no_out no_err no_memory =
    let image_is : run.image ≡ image = subst (λ left. IsInput left run.image) base_before run.image_is in
    let runs : RunsAs (asked_on words (Some base) image) source out err status =
    subst (λ is. RunsAs (asked_on words (Some base) is) source out err status) image_is run.runs in
    let found = runs.answers (
      λ four. elim (runs.read_fault four).0 [ inl failed ↦ no_source failed | inr failed ↦ no_base failed ],
      λ five. elim (runs.write_fault five)
          [ inl failed ↦ no_out failed | inr failed ↦ no_err failed ],
      no_memory,
    ) in
    record {
      written = found.2;
      told = found.4;
      answer = with_base words base image bytes found.2 found.4 status
          (subst (λ input. Output (asked_on words (Some base) image) input found.2 found.4 status) (subst (λ left. IsInput left found.0) before found.1) found.6);
    }
