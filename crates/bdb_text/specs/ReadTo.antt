-- How far the reader of a dump text has come.
use Rattle.std.specs.Prelude.{◌≡◌, ℕ, ◌+◌, if◌then◌else◌, true, false, List, [], ◌∷◌, ◌++◌, length, Option, Some, None, ⊤}
use Rattle.std.specs.List.{list_any}
use Rattle.bdb_spelling.specs.of_text_format.declared.faults.TextFault.{TextFault}
use Rattle.bdb_spelling.specs.of_text_format.Terms.{HeaderLine, entries, entry_of, entry_reason, header_end, is_header_end, lines_fit, text_lines}
use Rattle.bdb_text.specs.declared.headers.Header.{Header}
use Rattle.bdb_text.specs.declared.text_errors.TextError.{TextError}
use Rattle.bdb_text.specs.declared.text_errors.TextError.TheVariants.{Fault, Memory}
use Rattle.bdb_text.specs.declared.data_lines.LineError.{LineError}
use Rattle.bdb_text.specs.declared.data_lines.LineError.TheVariants.{Memory as WantOfMemory, Reason}
use Rattle.bdb_text.specs.Fields.{entries_in}
use Rattle.bdb_spelling.specs.of_text_format.declared.faults.TextReason.{TextReason}
use Rattle.bdb_spelling.specs.of_text_format.declared.faults.TextReason.TheVariants.{NoEnd}

-- The lines from `start` on begin with lines of a header that fit and give these entries; the rest of them begins with this number.
pub record IsHeaderTo (lines : List (List ℕ)) (start : ℕ) (fields : List HeaderLine) (rest : List (List ℕ)) (number : ℕ) : Type 0 where
  pub header : List (List ℕ)
  pub lines_are : lines ≡ header ++ rest
  pub not_ended : list_any is_header_end header ≡ false
  pub fits : lines_fit [] header ≡ true
  pub fields_are : entries header ≡ fields
  pub number_is : number ≡ start + length header

-- a text begins with the lines of a header and its end
abbrev pub IsHeaderRead : List ℕ → ℕ → Header → Type 0
IsHeaderRead text start header = IsHeaderTo (text_lines text) start (entries_in header.fields.items) (header_end ∷ text_lines header.rest.now) header.number

-- the reason of the next line of a header, where it doesn't end it
abbrev pub header_reason : List HeaderLine → List (List ℕ) → Option TextReason
header_reason fields [] = Some NoEnd
header_reason fields (line ∷ lines) = if is_header_end line then None else entry_reason fields (entry_of line)

-- behind lines of a header that fit stands one with this reason
pub record IsHeaderFault (text : List ℕ) (start : ℕ) (fault : TextFault) : Type 0 where
  pub fields : List HeaderLine
  pub rest : List (List ℕ)
  pub to : IsHeaderTo (text_lines text) start fields rest fault.line
  pub reason_is : header_reason fields rest ≡ Some fault.reason

-- a property of a fault
abbrev pub OnFault : (TextFault → Type 0) → TextError → Type 0
OnFault P (Fault fault) = P fault
OnFault P Memory = ⊤

-- the error of a line with this number and this reason
abbrev pub fault_at : ℕ → TextReason → TextError
fault_at number reason = Fault (record { line = number; reason = reason })

-- the error of a line with this number
abbrev pub error_at : ℕ → LineError → TextError
error_at number (Reason reason) = fault_at number reason
error_at number WantOfMemory = Memory
