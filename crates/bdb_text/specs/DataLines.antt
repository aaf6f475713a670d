-- What a data line says, and its reasons.
use Rattle.std.specs.Prelude.{◌≡◌, ℕ, ◌&&◌, if◌then◌else◌, Bool, true, false, not, List, [], ◌∷◌, length, Option, Some, None, is_none, ⊤}
use Rattle.bdb_spelling.specs.Runs.{joined}
use Rattle.bdb_spelling.specs.of_text_format.Terms.{IsKeyPlaced, Keeps, begins_with_space, is_record_number, placed_key, spelled_in}
use Rattle.bdb_spelling.specs.of_text_format.declared.pairs.Key.{Key}
use Rattle.bdb_spelling.specs.of_places.declared.place.PlacedKey.{PlacedKey}
use Rattle.bdb_spelling.specs.of_places.declared.span.Span.{Span}
use Rattle.bdb_spelling.specs.of_format.Terms.{digits_value, first_row, ◌:?◌}
use Rattle.bdb_text.specs.declared.data_lines.LineError.{LineError}
use Rattle.bdb_text.specs.declared.data_lines.LineError.TheVariants.{Memory, Reason}
use Rattle.bdb_spelling.specs.of_text_format.declared.faults.TextReason.{TextReason}
use Rattle.bdb_spelling.specs.of_text_format.declared.faults.TextReason.TheVariants.{NoSpace, BadDigit, BadEscape, BadNumber}

-- the reason of a data line, by how it is spelled and whether it is the number of a record
abbrev pub line_reason : Bool → Bool → List ℕ → Option TextReason
line_reason print numbered line = first_row (
    NoSpace :? not (begins_with_space line)
    ∷ BadDigit :? (not print && is_none (spelled_in false line))
    ∷ BadEscape :? (print && is_none (spelled_in true line))
    ∷ BadNumber :? (numbered && not (is_record_number (spelled_in print line)))
    ∷ [])

-- a reason is the first of the line
abbrev pub IsLineError : Bool → Bool → List ℕ → LineError → Type 0
IsLineError print numbered line (Reason reason) = line_reason print numbered line ≡ Some reason
IsLineError print numbered line Memory = ⊤

-- the number of a record that bytes say
abbrev pub record_number : List ℕ → Option ℕ
record_number bytes = if is_record_number (Some bytes) then Some (digits_value bytes) else None

-- what a line spells was added to a run, and stands there
pub record IsDataAdded (old new : List ℕ) (read : Option (List ℕ)) (span : Span) : Type 0 where
  pub added : joined old read ≡ Some new
  pub start : span.start ≡ length old
  pub end : span.end ≡ length new

-- a key stands in a run that has what it had
pub record IsKeyAdded (old new : List ℕ) (read : Option Key) (key : PlacedKey) : Type 0 where
  pub kept : Keeps old new
  pub placed : IsKeyPlaced new key
  pub same : read ≡ Some (placed_key new key)
