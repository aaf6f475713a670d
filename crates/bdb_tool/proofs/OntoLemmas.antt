-- A run with a base.
use Rattle.std.proofs.Common.{Bool, List, [], ap, arith, false, if◌then◌else◌, inl, inr, length, not, refl, subst, sym, true, true≢false, ℕ, ◌&&◌, ◌+◌, ◌<◌}
use Rattle.std.proofs.Common.{◌∙◌, ◌≡◌, ◌≤◌, ◌⊎◌, Option, Some, None, option_map}
use Rattle.std.proofs.lemmas.Bool.{le-ltb, lt-ltb}
use Rattle.bdb_repair.specs.of_format.Terms.{Judgement, Took, faults_of, judgement_of, judgement_seen, verdict_of}
use Rattle.bdb_repair.specs.of_format.declared.kinds.Fault.{Fault}
use Rattle.bdb_repair.specs.of_faults.Refusals.{IsFirstRefusal}
use Rattle.bdb_repair.specs.of_faults.declared.refusals.FirstError.{FirstError}
use Rattle.bdb_repair.specs.of_faults.declared.refusals.FirstError.TheVariants.{Fault as FirstFault, Memory as FirstMemory}
use Rattle.bdb_tool_ask.specs.of_tool_lines.Telling.{judgement_line, judgement_status}
use Rattle.bdb_repair.proofs.of_format.KnownLemmas.{keeps_itself}
use Rattle.bdb_repair.specs.of_model.Answers.{Answer, told}
use Rattle.bdb_repair.specs.of_model.Change.{Change}
use Rattle.bdb_repair.specs.of_model.Lines.{memory_line}
use Rattle.bdb_tool_ask.proofs.of_tool_lines.PrintingLemmas.{moved}
use Rattle.bdb_tool_build.specs.of_onto.Bases.{base_of}
use Rattle.bdb_tool_build.specs.Ontos.{IsTextOnto}
use Rattle.bdb_tool_words.specs.Commands.{Command, LoadOnto, command_of, command_on, handed, reads_base}
use Rattle.bdb_tool.specs.Ontos.{IsOntoAnswer, IsOntoBy, IsOntoBySize, base_too_large_line}
use Rattle.bdb_tool.specs.Outputs.{Asked, asked_alone}
use Rattle.bdb_tool_ask.specs.of_tool_lines.Finished.{IsRefused, Tells}
use Rattle.bdb_tool.specs.Parts.{Answered, BaseFailed, BaseRead, BaseTooLong, BaseUnread, Ends, EndsOnto, IsTaskAnswered, IsToldOfBase, IsToldStop, Unanswered}
use Rattle.bdb_tool.specs.Runs.{IsAnswered, ReadsBase, RunsAs, RunsOn, asked_on}
use Rattle.bdb_tool.specs.Tasks.{AreReading, IsInputWithin, IsStopped, IsTaskTaken, IsUnreadable}
use Rattle.bdb_tool_words.specs.WordsSeen.{AreOnto}
use Rattle.bdb_tool.specs.declared.task.Task.{Task}
use Rattle.bdb_tool.specs.declared.task.Stop.{Stop}
use Rattle.bdb_tool.specs.declared.task.Stop.TheVariants.{Usage, TooLarge, ReadFault, Memory as MemoryStop}
use Rattle.bdb_tool.proofs.BuiltLemmas.{onto_own}
use Rattle.bdb_tool_ask.proofs.of_tool_lines.FinishLemmas.{memory_finishes, told_finishes}
use Rattle.bdb_tool_ask.proofs.AnswerLemmas.{judgement_told}
use Rattle.bdb_tool.proofs.TaskLemmas.{not_read}
use Rattle.bdb_tool.proofs.RunLemmas.{calls_read, ended_runs, finished_runs, long_input, own_status, read_fault_runs, some_input, stopped_runs, taken_runs, unanswered_runs, whole_input, within_answers}

-- A base that isn't sound.

-- what holds first was told, or that memory ran out
pub refused_ends : (error : FirstError) (limit : ℕ) (text image : List ℕ) (written : Option (List ℕ)) (faults : ℕ) (err : Change) (status : ℕ)
    → IsFirstRefusal (faults_of image) error
    → IsRefused error err status → Ends (IsOntoBy limit (verdict_of image) text image) (moved written written faults faults) err status
refused_ends (FirstFault named) limit text image written faults err status is (inl tells) =
    let judgement : Judgement = judgement_seen named in
    let answer : Answer = told (judgement_status judgement) (judgement_line judgement) in
    Answered answer (subst (λ (first : Option Fault). IsOntoBy limit (option_map judgement_of first) text image answer) (sym is) refl)
    (judgement_told judgement written faults err status tells)
refused_ends (FirstFault named) limit text image written faults err status is (inr tells) = Unanswered (keeps_itself written) tells
refused_ends FirstMemory limit text image written faults err status is tells = Unanswered (keeps_itself written) tells

-- A base that is sound.

-- an answer to a text on the base that an image is
of_base : (limit : ℕ) (text image sound : List ℕ) (answer : Answer) → sound ≡ image → verdict_of image ≡ None → IsTextOnto limit (base_of sound) text answer
    → IsOntoBy limit (verdict_of image) text image answer
of_base limit text image sound answer is none answers =
    subst (λ verdict. IsOntoBy limit verdict text image answer) (sym none) (subst (λ (it : List ℕ). IsTextOnto limit (base_of it) text answer) is answers)

-- what is written of one answer is written of it by another rule
pub ends_on_base : (limit : ℕ) (text image sound : List ℕ) (out err : Change) (status : ℕ) → sound ≡ image → verdict_of image ≡ None
    → Ends (IsTextOnto limit (base_of sound) text) out err status → Ends (IsOntoBy limit (verdict_of image) text image) out err status
ends_on_base limit text image sound out err status is none (Answered answer answers finishes) =
    Answered answer (of_base limit text image sound answer is none answers) finishes
ends_on_base limit text image sound out err status is none (Unanswered stays tells) = Unanswered stays tells

-- A base that isn't read whole.

base_too_long : (limit : ℕ) (text : List ℕ) (base : Change) (written : Option (List ℕ)) (faults : ℕ) (err : Change) (status : ℕ)
    → Took (limit + 1) base.before base.now
    → Tells (base_too_large_line limit) 6 err status ⊎ Tells memory_line 7 err status
    → EndsOnto limit text base (moved written written faults faults) err status
base_too_long limit text base written faults err status took (inl tells) =
    BaseTooLong took (told_finishes 6 (base_too_large_line limit) written faults err status (λ is. omega arith) (λ is. omega arith) tells)
base_too_long limit text base written faults err status took (inr tells) =
    BaseTooLong took
    (memory_finishes (told 6 (base_too_large_line limit)) written faults err status
    (record { no_read_fault = λ is. omega arith; no_write_fault = λ is. omega arith; no_memory = λ is. omega arith }) tells)

pub base_stopped : (limit : ℕ) (text : List ℕ) (base : Change) (written : Option (List ℕ)) (faults : ℕ) (err : Change) (stop : Stop) (status : ℕ)
    → IsUnreadable limit base stop
    → IsToldOfBase stop err status → EndsOnto limit text base (moved written written faults faults) err status
base_stopped limit text base written faults err Usage status unread told_line = absurd unread
base_stopped limit text base written faults err (TooLarge longest) status unread told_line =
    base_too_long limit text base written faults err status unread.1
    (subst (λ n. Tells (base_too_large_line n) 6 err status ⊎ Tells memory_line 7 err status) unread.0 told_line)
base_stopped limit text base written faults err ReadFault status unread told_line = BaseFailed unread (keeps_itself written) told_line
base_stopped limit text base written faults err MemoryStop status unread told_line = BaseUnread (keeps_itself written) told_line

-- What a run is asked.

abbrev onto_command : ℕ → List ℕ → Command
onto_command limit file = record { limit = limit; action = LoadOnto file }

pub on_base : (words : List (List ℕ)) (limit : ℕ) (are : AreOnto words limit) → command_on words true ≡ Some (onto_command limit are.file)
on_base words limit are = ap (handed true) are.command_is

reading_base : (words : List (List ℕ)) (limit : ℕ) → AreOnto words limit → AreReading (command_on words true)
reading_base words limit are = record { command = onto_command limit are.file; command_is = on_base words limit are; reads = refl }

reads_it : (words : List (List ℕ)) (limit : ℕ) (source : Change) (text : List ℕ) → AreOnto words limit → IsInputWithin limit source text
    → ReadsBase (command_on words true) source
reads_it words limit source text are read = record {
  command = onto_command limit are.file;
  command_is = on_base words limit are;
  reads = refl;
  input = text;
  input_is = read;
}

same_limit : (words : List (List ℕ)) (limit : ℕ) → AreOnto words limit → (command : Command) → command_on words true ≡ Some command → limit ≡ command.limit
same_limit words limit are command is =
    let both : Some (onto_command limit are.file) ≡ Some command = sym (on_base words limit are) ∙ is in
    let same : onto_command limit are.file ≡ command = cc in ap (λ (c : Command). c.limit) same

-- an answer to a base within the limit, and to one beyond it
within_base : (limit : ℕ) (text image : List ℕ) (answer : Answer) → length image ≤ limit → IsOntoBy limit (verdict_of image) text image answer
    → IsOntoAnswer limit text image answer
within_base limit text image answer within is = subst (λ beyond. IsOntoBySize beyond limit text image answer) (sym (le-ltb limit (length image) within)) is

beyond_base : (limit : ℕ) (text image : List ℕ) → limit < length image → IsOntoAnswer limit text image (told 6 (base_too_large_line limit))
beyond_base limit text image beyond =
    subst (λ b. IsOntoBySize b limit text image (told 6 (base_too_large_line limit))) (sym (lt-ltb limit (length image) beyond)) refl

-- The whole promise.

-- what is asked where no base is read is what the words say without one
pub taken_alone : (asked : Asked) (said : Option Command) (source out err : Change) (task : Task) (status : ℕ) → asked.command ≡ said
    → IsTaskTaken said source task
    → IsTaskAnswered task out err status → RunsAs asked source out err status
taken_alone asked said source out err task status is taken =
    taken_runs asked source out err task status (subst (λ s. IsTaskTaken s source task) (sym is) taken)

pub stopped_alone : (asked : Asked) (said : Option Command) (source err : Change) (written : Option (List ℕ)) (faults : ℕ) (stop : Stop) (status : ℕ)
    → asked.command ≡ said
    → IsStopped said source stop → IsToldStop stop err status → RunsAs asked source (moved written written faults faults) err status
stopped_alone asked said source err written faults stop status is stopped =
    stopped_runs asked source err written faults stop status (subst (λ s. IsStopped s source stop) (sym is) stopped)

-- without a base no command reads one
no_base_by : (b : Bool) (own command : Command) → reads_base own.action ≡ b → (if b && not false then None else Some own) ≡ Some command
    → reads_base command.action ≡ true → ⊥
no_base_by true own command reads is other = cc is
no_base_by false own command reads is other =
    let same : own ≡ command = cc is in true≢false (sym other ∙ (sym (ap (λ (c : Command). reads_base c.action) same) ∙ reads))

no_base : (own : Option Command) (command : Command) → handed false own ≡ Some command → reads_base command.action ≡ true → ⊥
no_base None command is reads = cc is
no_base (Some own) command is reads = no_base_by (reads_base own.action) own command refl is reads

-- words that read no base
pub alone_runs : (words : List (List ℕ)) (source out err : Change) (bytes : Option (List ℕ)) (faults status : ℕ)
    → command_on words true ≡ command_on words false
    → ((asked : Asked) → asked.command ≡ command_on words false → RunsAs asked source out err status)
    → RunsOn words source (Some (moved bytes bytes faults faults)) out err status
alone_runs words source out err bytes faults status same runs =
    let image = some_input bytes in
    record {
      image = image.0;
      image_is = image.1;
      runs = runs (asked_on words (Some (moved bytes bytes faults faults)) image.0) same;
      base_called = inl (record { bytes = keeps_itself bytes; faults = refl });
      base_whole = λ command is reads. absurd (no_base (command_of words) command (sym same ∙ is) reads);
    }

-- no base is handed in
pub runs_without : (words : List (List ℕ)) (source out err : Change) (status : ℕ)
    → ((asked : Asked) → asked.command ≡ command_on words false → RunsAs asked source out err status) → RunsOn words source None out err status
runs_without words source out err status runs = record {
  image = [];
  image_is = refl;
  runs = runs (asked_on words None []) refl;
  base_called = inl tt;
  base_whole = λ command is reads. absurd (no_base (command_of words) command is reads);
}

pub alone_of : (words : List (List ℕ)) (source out err : Change) (status : ℕ) → RunsOn words source None out err status
    → RunsAs (asked_alone words) source out err status
alone_of words source out err status run = subst (λ image. RunsAs (asked_on words None image) source out err status) run.image_is run.runs

-- a text that isn't read
pub unread_runs : (words : List (List ℕ)) (limit : ℕ) (source err : Change) (bytes written : Option (List ℕ)) (counted faults : ℕ) (stop : Stop) (status : ℕ)
    → AreOnto words limit
    → IsUnreadable limit source stop → IsToldStop stop err status
    → RunsOn words source (Some (moved bytes bytes counted counted)) (moved written written faults faults) err status
unread_runs words limit source err bytes written counted faults stop status are unread told_line =
    let image = some_input bytes in
    let asked : Asked = asked_on words (Some (moved bytes bytes counted counted)) image.0 in
    record {
      image = image.0;
      image_is = image.1;
      runs =
          stopped_runs asked source err written faults stop status
          (not_read (command_on words true) source limit (LoadOnto are.file) stop (on_base words limit are) refl unread) told_line;
      base_called = inl (record { bytes = keeps_itself bytes; faults = refl });
      base_whole = λ command is reads answered. inr (by_stop stop command (same_limit words limit are command is) unread told_line answered);
    }
  where
    by_stop : (stop : Stop) (command : Command) → limit ≡ command.limit → IsUnreadable limit source stop → IsToldStop stop err status → IsAnswered status
        → (status ≡ 6) × Took (command.limit + 1) source.before source.now
    by_stop Usage command same unread told_line answered = absurd unread
    by_stop (TooLarge longest) command same unread (inl tells) answered = (
      elim tells.status_is [ inl six ↦ six | inr five ↦ absurd (answered.1 five) ],
      subst (λ n. Took (n + 1) source.before source.now) same unread.1,
    )
    by_stop (TooLarge longest) command same unread (inr tells) answered = absurd
        (elim tells.status_is [ inl seven ↦ answered.2 seven | inr five ↦ answered.1 five ])
    by_stop ReadFault command same unread tells answered = absurd (elim tells.status_is [ inl four ↦ answered.0 four | inr five ↦ answered.1 five ])
    by_stop MemoryStop command same unread tells answered = absurd (elim tells.status_is [ inl seven ↦ answered.2 seven | inr five ↦ answered.1 five ])

-- a text that is loaded onto a base
pub onto_runs : (words : List (List ℕ)) (limit : ℕ) (text : List ℕ) (source base out err : Change) (status : ℕ) → AreOnto words limit
    → IsInputWithin limit source text
    → EndsOnto limit text base out err status → RunsOn words source (Some base) out err status
onto_runs words limit text source base out err status are read (BaseRead image within ends) =
    let asked : Asked = asked_on words (Some base) image in
    let command : Command = onto_command limit are.file in
    record {
      image = image;
      image_is = whole_input base.before base.now image within.bytes within.end;
      runs =
          ended_runs asked source out err text command (IsOntoBy limit (verdict_of image) text image) status
          (whole_input source.before source.now text read.bytes read.end) (on_base words limit are)
          (λ answer allows. (
            within_answers asked text command answer (on_base words limit are) read.within (within_base limit text image answer within.within allows),
            (onto_own limit text image answer allows).no_read_fault,
          ))
          (λ unread. absurd (true≢false unread)) (calls_read asked source command status (on_base words limit are) refl read.end) ends;
      base_called = inr (reads_it words limit source text are read);
      base_whole = λ other is reads answered. inl (inl within.end);
    }
onto_runs words limit text source base out err status are read (BaseTooLong took finishes) =
    let image = long_input limit base.before base.now took in
    let asked : Asked = asked_on words (Some base) image.0 in
    let command : Command = onto_command limit are.file in
    let answer : Answer = told 6 (base_too_large_line limit) in
    record {
      image = image.0;
      image_is = image.1;
      runs =
          finished_runs asked source out err text answer status (whole_input source.before source.now text read.bytes read.end)
          (within_answers asked text command answer (on_base words limit are) read.within (beyond_base limit text image.0 image.2)) (λ four. omega arith)
          finishes
          (calls_read asked source command status (on_base words limit are) refl read.end);
      base_called = inr (reads_it words limit source text are read);
      base_whole = λ other is reads answered.
          inl (inr (
            own_status answer out err status finishes answered,
            subst (λ n. Took (n + 1) base.before base.now) (same_limit words limit are other is)
                took,
          ));
    }
onto_runs words limit text source base out err status are read (BaseFailed failed stays tells) =
    let image = some_input base.before in
    record {
      image = image.0;
      image_is = image.1;
      runs = read_fault_runs (asked_on words (Some base) image.0) source out err status (reading_base words limit are) (inr failed) stays tells;
      base_called = inr (reads_it words limit source text are read);
      base_whole = λ other is reads answered. absurd (elim tells.status_is [ inl four ↦ answered.0 four | inr five ↦ answered.1 five ]);
    }
onto_runs words limit text source base out err status are read (BaseUnread stays tells) =
    let image = some_input base.before in
    record {
      image = image.0;
      image_is = image.1;
      runs =
          unanswered_runs (asked_on words (Some base) image.0) source out err status (onto_command limit are.file) (on_base words limit are)
          (λ unread. absurd (true≢false unread)) stays tells;
      base_called = inr (reads_it words limit source text are read);
      base_whole = λ other is reads answered. absurd (elim tells.status_is [ inl seven ↦ answered.2 seven | inr five ↦ answered.1 five ]);
    }
