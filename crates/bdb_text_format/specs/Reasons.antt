-- Why a text is not read: a line's reasons, in their order, by the lines before it in its section and the names of the
-- sections before it. Source: docs/FORMAT.md, "Reasons".
use Rattle.std.specs.Prelude.{ℕ, ◌+◌, ◌%◌, ◌==◌, nat_le, ◌&&◌, ◌||◌, if◌then◌else◌, Bool, true, false, not, List, [], ◌∷◌, ◌++◌, length, Option, Some, None}
use Rattle.std.specs.Prelude.{codes, is_some, is_none}
use Rattle.std.specs.List.{list_any, find, starts_with}
use Rattle.std.specs.Str.{bytes_eq}
use Rattle.bdb_places.specs.of_format.Terms.{digits_value, first_row, is_name, is_number, ◌:?◌}
use Rattle.bdb_text_format.specs.TextSpelling.{bytes_spelled}
use Rattle.bdb_text_format.specs.declared.faults.TextFault.{TextFault}
use Rattle.bdb_text_format.specs.TextLines.{text_lines, is_header_end, is_data_end}
use Rattle.bdb_text_format.specs.Written.{HeaderLine, version_line}
use Rattle.bdb_text_format.specs.declared.keywords.Judged.{Judged}
use Rattle.bdb_text_format.specs.declared.keywords.Judged.TheVariants.{Fits, Bad, LeftOut}
use Rattle.bdb_text_format.specs.Keywords.{Keyword, keywords}
use Rattle.bdb_text_format.specs.Header.{Values, entry_of, entries, given, values, name_in, conflicts, has_record_type, has_keys, prints}
use Rattle.bdb_text_format.specs.declared.faults.TextReason.{TextReason}
use Rattle.bdb_text_format.specs.declared.faults.TextReason.TheVariants.{NoVersion, Version, UnknownKeyword, BadValue, RepeatedKeyword, NoType, Unsupported}
use Rattle.bdb_text_format.specs.declared.faults.TextReason.TheVariants.{NoSpace}
use Rattle.bdb_text_format.specs.declared.faults.TextReason.TheVariants.{BadDigit, BadEscape, KeyWithoutData, BadNumber, NoEnd, NameMissing, NameTwice}
use Rattle.bdb_text_format.specs.declared.faults.TextReason.TheVariants.{Conflict}

-- the lines of a section, but for its first, up to HEADER=END, and those behind it
pub record Parts : Type 0 where
  pub header : List (List ℕ)
  pub data_lines : List (List ℕ)

-- a line before those of a header
abbrev pub with_line : List ℕ → Option Parts → Option Parts
with_line line None = None
with_line line (Some parts) = Some (record parts { header = line ∷ parts.header })

-- nothing where there is no HEADER=END
abbrev pub parts_of : List (List ℕ) → Option Parts
parts_of [] = None
parts_of (line ∷ lines) = if is_header_end line then Some (record { header = []; data_lines = lines }) else with_line line (parts_of lines)

-- The first line of a section.

-- whether a line begins with `VERSION=`
abbrev pub begins_version : List ℕ → Bool
begins_version line = starts_with (λ (a b : ℕ). a == b) line (codes "VERSION=")

-- the reason of the first line of a section
abbrev pub first_line_reason : List ℕ → Option TextReason
first_line_reason line = first_row (NoVersion :? not (begins_version line) ∷ Version :? not (bytes_eq line version_line) ∷ [])

-- A line of a header.

-- whether a value is bad
abbrev pub is_bad : Judged → Bool
is_bad Fits = false
is_bad Bad = true
is_bad LeftOut = false

-- whether what a value asks for isn't supported
abbrev pub is_left_out : Judged → Bool
is_left_out Fits = false
is_left_out Bad = false
is_left_out LeftOut = true

-- the keyword of this name
abbrev pub keyword_named : List ℕ → Option Keyword
keyword_named name = find (λ (keyword : Keyword). bytes_eq name keyword.name) keywords

-- the reason of an entry, by its keyword and the entries before it
abbrev pub keyword_reason : List HeaderLine → HeaderLine → Option Keyword → Option TextReason
keyword_reason before entry None = Some UnknownKeyword
keyword_reason before entry (Some keyword) = first_row (
    RepeatedKeyword :? is_some (given entry.name before)
    ∷ Unsupported :? is_left_out (keyword.judged entry.value)
    ∷ BadValue :? is_bad (keyword.judged entry.value)
    ∷ [])

-- the reason of a header line
abbrev pub entry_reason : List HeaderLine → Option HeaderLine → Option TextReason
entry_reason before None = Some UnknownKeyword
entry_reason before (Some entry) = keyword_reason before entry (keyword_named entry.name)

-- The line HEADER=END.

-- whether no section stands before
abbrev pub is_first : List (Option (List ℕ)) → Bool
is_first [] = true
is_first (name ∷ names) = false

-- a section among others has a name, and so have these
abbrev pub name_missing : List (Option (List ℕ)) → Option (List ℕ) → Bool
name_missing names name = not (is_first names) && (is_none name || list_any is_none names)

-- the reason of the end of a header
abbrev pub header_end_reason : List (Option (List ℕ)) → Values → Option TextReason
header_end_reason names header = first_row (
    NoType :? is_none (header (codes "type"))
    ∷ Conflict :? conflicts header
    ∷ NameMissing :? name_missing names (name_in header)
    ∷ NameTwice :? list_any (is_name (name_in header)) names
    ∷ [])

-- A data line: in a section with keys they stand in turn with the data.

-- whether the lines are of odd number
abbrev pub has_odd_length : List (List ℕ) → Bool
has_odd_length lines = length lines % 2 == 1

-- whether the next line is that of a datum behind its key
abbrev pub awaits_data : Values → List (List ℕ) → Bool
awaits_data header before = has_keys header && has_odd_length before

-- whether the next line is a key
abbrev pub is_key : Values → List (List ℕ) → Bool
is_key header before = has_keys header && not (has_odd_length before)

-- whether a line begins with a space
abbrev pub begins_with_space : List ℕ → Bool
begins_with_space [] = false
begins_with_space (byte ∷ text) = byte == 32

-- the bytes that a line spells behind its first byte
abbrev pub spelled_in : Bool → List ℕ → Option (List ℕ)
spelled_in print [] = None
spelled_in print (byte ∷ text) = bytes_spelled print text

-- whether bytes are the number of a record
abbrev pub is_record_number : Option (List ℕ) → Bool
is_record_number None = false
is_record_number (Some bytes) = is_number bytes && nat_le (digits_value bytes) 4294967295

-- the reason of a data line, by those before it
abbrev pub data_line_reason : Values → List (List ℕ) → List ℕ → Option TextReason
data_line_reason header before line = first_row (
    NoSpace :? not (begins_with_space line)
    ∷ BadDigit :? (not (prints header) && is_none (spelled_in false line))
    ∷ BadEscape :? (prints header && is_none (spelled_in true line))
    ∷ BadNumber :? (is_key header before && has_record_type header && not (is_record_number (spelled_in (prints header) line)))
    ∷ [])

-- the reason of the end of a section
abbrev pub data_end_reason : Values → List (List ℕ) → Option TextReason
data_end_reason header before = first_row (KeyWithoutData :? awaits_data header before ∷ [])

-- Any line.

-- the reason of a line behind the first
abbrev pub reason_behind : List (Option (List ℕ)) → List (List ℕ) → Option Parts → List ℕ → Option TextReason
reason_behind names before None line =
    if is_header_end line then header_end_reason names (values before) else entry_reason (entries before) (entry_of line)
reason_behind names before (Some parts) line =
    if is_data_end line then data_end_reason (values parts.header) parts.data_lines else data_line_reason (values parts.header) parts.data_lines line

-- the first reason of a line, by the names of the earlier sections and the lines before it in its section
unfoldable pub reason_of : List (Option (List ℕ)) → List (List ℕ) → List ℕ → Option TextReason
reason_of names [] line = first_line_reason line
reason_of names (first ∷ before) line = reason_behind names before (parts_of before) line

-- the name that a section's header gives
abbrev pub name_of_parts : Option Parts → Option (List ℕ)
name_of_parts None = None
name_of_parts (Some parts) = name_in (values parts.header)

-- the name of a section with these lines
abbrev pub name_of : List (List ℕ) → Option (List ℕ)
name_of [] = None
name_of (first ∷ lines) = name_of_parts (parts_of lines)

-- The first line with a reason.

-- the text ends within a section
abbrev pub end_fault : List (List ℕ) → ℕ → Option TextFault
end_fault [] number = None
end_fault (first ∷ lines) number = Some (record { line = number; reason = NoEnd })

-- What stands before the line behind this one.

-- the names of the sections that ended
abbrev pub names_with : List (Option (List ℕ)) → List (List ℕ) → List ℕ → List (Option (List ℕ))
names_with names before line = if is_data_end line then names ++ name_of before ∷ [] else names

-- the lines before it in its section
abbrev pub lines_with : List (List ℕ) → List ℕ → List (List ℕ)
lines_with before line = if is_data_end line then [] else before ++ line ∷ []

-- a reason at the line of this number
abbrev pub fault_at : ℕ → Option TextReason → Option TextFault
fault_at number None = None
fault_at number (Some reason) = Some (record { line = number; reason = reason })

-- the first of two faults
abbrev pub or_fault : Option TextFault → Option TextFault → Option TextFault
or_fault None other = other
or_fault (Some fault) other = Some fault

-- the first fault from a line on, whose number is given, by what stands before it
abbrev pub fault_from : List (Option (List ℕ)) → List (List ℕ) → ℕ → List (List ℕ) → Option TextFault
fault_from names before number [] = end_fault before number
fault_from names before number (line ∷ lines) =
    or_fault (fault_at number (reason_of names before line)) (fault_from (names_with names before line) (lines_with before line) (number + 1) lines)

-- the fault of lines
abbrev pub fault_in : List (List ℕ) → Option TextFault
fault_in [] = Some (record { line = 1; reason = NoVersion })
fault_in (line ∷ lines) = fault_from [] [] 1 (line ∷ lines)

-- the fault of a text
unfoldable pub text_fault : List ℕ → Option TextFault
text_fault text = fault_in (text_lines text)
