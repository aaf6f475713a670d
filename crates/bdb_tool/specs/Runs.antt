-- What a run of the program promises, whatever its source and its sinks do.
use Rattle.std.specs.Prelude.{◌≡◌, ◌≢◌, ◌⊎◌, ℕ, ◌+◌, true, false, List, Option, Some, None, is_some, ⊤}
use Rattle.std.specs.Io.KnownBytes.{IsAtEnd}
use Rattle.std.specs.Borrow.{MutBor}
use Rattle.std.proofs.Common.{inl, inr}
use Rattle.bdb_repair.specs.of_model.Change.{Change, Gains, GainsPart, HasFailed, IsUncalled, Stays, change}
use Rattle.bdb_repair.specs.of_format.Terms.{Took}
use Rattle.bdb_tool_words.specs.Commands.{Command, command_on, reads_base, reads_input}
use Rattle.bdb_repair.specs.of_model.Lines.{memory_line, read_fault_line, write_fault_line}
use Rattle.bdb_tool.specs.Outputs.{Answers, AnswersInPart, Asked, IsBaseInput, IsInput, Output}
use Rattle.bdb_tool.specs.Tasks.{IsInputWithin}

-- neither the outside nor memory failed
abbrev pub IsAnswered : ℕ → Type 0
IsAnswered status = (status ≢ 4) × (status ≢ 5) × (status ≢ 7)

-- the source failed, or a base that is handed in
abbrev pub HasFailedReading : Change → Option Change → Type 0
HasFailedReading source None = HasFailed source
HasFailedReading source (Some base) = HasFailed source ⊎ HasFailed base

-- a line that a run may begin on an error sink that fails: that of a write fault, of lack of memory, of a read fault
-- where the source or the base failed, or of an answer to what is asked, and the input
pub data ErrorLine (asked : Asked) (source : Change) (text : List ℕ) : Type 0 where
  OfWriteFault : text ≡ write_fault_line → ErrorLine asked source text
  OfMemory : text ≡ memory_line → ErrorLine asked source text
  OfReadFault : HasFailedReading source asked.base → text ≡ read_fault_line → ErrorLine asked source text
  OfAnswer : (input written : List ℕ) (status : ℕ) → IsInput source.before input → Output asked input written text status → ErrorLine asked source text

-- the promise of a run that is asked this and ended with this status, but for what becomes of the base
pub record RunsAs (asked : Asked) (source out err : Change) (status : ℕ) : Type 0 where
  -- where nothing failed, the status and all that was written are an answer to what is asked, and the input
  pub answers : IsAnswered status → Answers asked source out err status
  -- a read fault comes only where the source or the base failed; only its line was written
  pub read_fault : status ≡ 4 → HasFailedReading source asked.base × Stays out × Gains err read_fault_line
  -- a write fault comes only where a sink failed
  pub write_fault : status ≡ 5 → HasFailed out ⊎ HasFailed err
  -- with it, the output has a prefix of an answer
  pub part_on_fault : status ≡ 5 → AnswersInPart asked source out
  -- and the error sink has the line of a write fault, where it didn't fail itself
  pub write_fault_line_told : status ≡ 5 → (HasFailed err → ⊥) → Gains err write_fault_line
  -- or a prefix of one of the error lines, where it did
  pub error_line_begun : status ≡ 5 → HasFailed err → (text : List ℕ) × ErrorLine asked source text × GainsPart err text
  -- where memory ran out, the output has a prefix of an answer, and the error sink has the line that says so
  pub memory : status ≡ 7 → AnswersInPart asked source out × Gains err memory_line
  -- where there is no command, it is a usage fault, or its line can't be written, and the source isn't called
  pub usage : asked.command ≡ None → ((status ≡ 2) ⊎ (status ≡ 5)) × IsUncalled source
  -- a command that reads no input doesn't call the source either
  pub unread : (command : Command) → asked.command ≡ Some command → reads_input command.action ≡ false → IsUncalled source
  -- an answer to another command comes after the source was read to its end, or one byte beyond the limit, which status 6 says
  pub read_whole : (command : Command) → asked.command ≡ Some command → reads_input command.action ≡ true → IsAnswered status
      → IsAtEnd source.now ⊎ ((status ≡ 6) × Took (command.limit + 1) source.before source.now)

-- the change of a base that may be handed in
abbrev pub base_change : {X : Type 0} → (X → Option (List ℕ)) → (X → ℕ) → Option (MutBor X) → Unit {0} ⊎ ((MutBor X × Unit {0}) ⊎ ⊥) → Option Change
base_change bytes faults None exit = None
base_change bytes faults (Some old) (inl none) = None
base_change bytes faults (Some old) (inr (inl new)) = Some (change bytes faults old.now new.0.now)
base_change bytes faults (Some old) (inr (inr never)) = None

-- a base that is handed in wasn't called
abbrev pub IsUncalledIf : Option Change → Type 0
IsUncalledIf None = ⊤
IsUncalledIf (Some base) = IsUncalled base

-- a base was read to its end, or one byte beyond the limit, which status 6 says
abbrev pub IsBaseRead : ℕ → Option Change → ℕ → Type 0
IsBaseRead limit None status = ⊥
IsBaseRead limit (Some base) status = IsAtEnd base.now ⊎ ((status ≡ 6) × Took (limit + 1) base.before base.now)

abbrev pub asked_on : List (List ℕ) → Option Change → List ℕ → Asked
asked_on words base image = record { command = command_on words (is_some base); base = base; image = image }

-- a command reads a base, and the source was read to its end, within the limit of that command
pub record ReadsBase (asked : Option Command) (source : Change) : Type 0 where
  pub command : Command
  pub command_is : asked ≡ Some command
  pub reads : reads_base command.action ≡ true
  pub input : List ℕ
  pub input_is : IsInputWithin command.limit source input

-- the whole promise of a run on these words, with a base that is handed in or without one
pub record RunsOn (words : List (List ℕ)) (source : Change) (base : Option Change) (out err : Change) (status : ℕ) : Type 0 where
  pub image : List ℕ
  pub image_is : IsBaseInput base image
  pub runs : RunsAs (asked_on words base image) source out err status
  -- the base isn't called, or a command reads it and the source was read to its end before, within the limit of that command
  pub base_called : IsUncalledIf base ⊎ ReadsBase (command_on words (is_some base)) source
  -- an answer to such a command comes after the base was read to its end, or one byte beyond the limit, or after the source was read one byte beyond the limit
  pub base_whole : (command : Command) → command_on words (is_some base) ≡ Some command → reads_base command.action ≡ true → IsAnswered status
      → IsBaseRead command.limit base status ⊎ ((status ≡ 6) × Took (command.limit + 1) source.before source.now)
