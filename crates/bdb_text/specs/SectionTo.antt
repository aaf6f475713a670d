-- How far the reader of a whole dump text has come.
use Rattle.std.specs.Prelude.{◌≡◌, ℕ, ◌+◌, false, List, [], ◌∷◌, ◌++◌, length, map, Option, Some, None, codes, is_none}
use Rattle.std.specs.List.{list_any}
use Rattle.bdb_spelling.specs.of_format.Terms.{first_row, is_name, ◌:?◌}
use Rattle.bdb_spelling.specs.of_text_format.declared.faults.TextFault.{TextFault}
use Rattle.bdb_spelling.specs.of_text_format.declared.sections.Section.{Section}
use Rattle.bdb_spelling.specs.of_text_format.Terms.{Values, conflicts, data_end, fault_from, is_data_end, name_missing, name_of, section_read, sections_from}
use Rattle.bdb_spelling.specs.of_text_format.Terms.{text_fault, text_lines, text_sections}
use Rattle.bdb_text.specs.declared.dump.Read.{Read}
use Rattle.bdb_spelling.specs.of_text_format.declared.faults.TextReason.{TextReason}
use Rattle.bdb_spelling.specs.of_text_format.declared.faults.TextReason.TheVariants.{NoType, NameMissing, NameTwice, Conflict}

-- the names of sections
abbrev pub names_of : List Section → List (Option (List ℕ))
names_of sections = map (λ (section : Section). section.name) sections

-- the first reason of a header's end, by the section's name
abbrev pub named_end_reason : List (Option (List ℕ)) → Values → Option (List ℕ) → Option TextReason
named_end_reason names header name = first_row (
    NoType :? is_none (header (codes "type"))
    ∷ Conflict :? conflicts header
    ∷ NameMissing :? name_missing names name
    ∷ NameTwice :? list_any (is_name name) names
    ∷ [])

-- a text begins with the lines of a section, behind sections of these names, and with its end
pub record IsSectionRead (names : List (Option (List ℕ))) (text : List ℕ) (start : ℕ) (read : Read) : Type 0 where
  pub lines : List (List ℕ)
  pub lines_are : text_lines text ≡ lines ++ data_end ∷ text_lines read.rest.now
  pub within : list_any is_data_end lines ≡ false
  pub section_is : section_read names start lines ≡ Some read.section
  pub name_is : name_of lines ≡ read.section.name
  pub number_is : read.number ≡ start + length lines + 1

-- the first fault from the section on that a text begins with
abbrev pub IsSectionFault : List (Option (List ℕ)) → List ℕ → ℕ → TextFault → Type 0
IsSectionFault names text start fault = fault_from names [] start (text_lines text) ≡ Some fault

-- sections before those that follow, where these are there
abbrev pub sections_behind : List Section → Option (List Section) → Option (List Section)
sections_behind sections None = None
sections_behind sections (Some others) = Some (sections ++ others)

-- The text begins with these sections; the rest of it begins with the line of this number.
pub record IsTextTo (text : List ℕ) (sections : List Section) (rest : List ℕ) (number : ℕ) : Type 0 where
  pub fault_is : text_fault text ≡ fault_from (names_of sections) [] number (text_lines rest)
  pub sections_are : text_sections text ≡ sections_behind sections (sections_from (names_of sections) [] number (text_lines rest))

-- the text's fault
abbrev pub IsTextFault : List ℕ → TextFault → Type 0
IsTextFault text fault = text_fault text ≡ Some fault
