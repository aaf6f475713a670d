-- What a text is read as. Source: docs/FORMAT.md, "Dump text".
use Rattle.std.specs.Prelude.{◌≡◌, ℕ, ◌+◌, ◌==◌, ◌&&◌, if◌then◌else◌, Bool, true, false, not, List, [], ◌∷◌, ◌++◌, length, Option, Some, None, codes, is_some}
use Rattle.std.specs.Prelude.{is_none}
use Rattle.std.specs.List.{list_any}
use Rattle.std.specs.Str.{bytes_eq}
use Rattle.bdb_text_format.specs.declared.pairs.Key.{Key}
use Rattle.bdb_text_format.specs.declared.pairs.Key.TheVariants.{Bytes, Number}
use Rattle.bdb_text_format.specs.declared.sections.Section.{Section}
use Rattle.bdb_text_format.specs.declared.pairs.TextPair.{TextPair}
use Rattle.bdb_places.specs.of_format.Terms.{digits_value, is_name}
use Rattle.bdb_text_format.specs.TextSpelling.{bytes_spelled}
use Rattle.bdb_text_format.specs.TextLines.{text_lines, is_data_end}
use Rattle.bdb_text_format.specs.Written.{HeaderLine, version_line}
use Rattle.bdb_text_format.specs.declared.keywords.Judged.{Judged}
use Rattle.bdb_text_format.specs.declared.keywords.Judged.TheVariants.{Fits, Bad, LeftOut}
use Rattle.bdb_text_format.specs.Keywords.{Keyword}
use Rattle.bdb_text_format.specs.Header.{Values, entry_of, entries, given, values, name_in, conflicts, has_record_type, has_keys, prints, settings_in}
use Rattle.bdb_text_format.specs.Reasons.{Parts, parts_of, keyword_named, is_record_number, name_missing, names_with, lines_with}

-- Headers: each line is a keyword of the table and a value that fits it, and no keyword stands twice.

-- whether a value fits
abbrev pub fits : Judged → Bool
fits Fits = true
fits Bad = false
fits LeftOut = false

-- whether an entry fits its keyword
abbrev pub keyword_fits : HeaderLine → Option Keyword → Bool
keyword_fits entry None = false
keyword_fits entry (Some keyword) = fits (keyword.judged entry.value)

-- whether an entry fits, behind those before it
abbrev pub entry_fits : List HeaderLine → Option HeaderLine → Bool
entry_fits before None = false
entry_fits before (Some entry) = is_none (given entry.name before) && keyword_fits entry (keyword_named entry.name)

-- whether each line fits, behind those before it
abbrev pub lines_fit : List (List ℕ) → List (List ℕ) → Bool
lines_fit before [] = true
lines_fit before (line ∷ lines) = entry_fits (entries before) (entry_of line) && lines_fit (before ++ line ∷ []) lines

-- a type, no conflict, and a name that none before it has, where there are others
abbrev pub header_fits : List (Option (List ℕ)) → List (List ℕ) → Bool
header_fits names header =
    lines_fit [] header && (is_some (values header (codes "type")) && (not (conflicts (values header))
    && (not (name_missing names (name_in (values header))) && not (list_any (is_name (name_in (values header))) names))))

-- Data lines: a space and a spelling.

-- the bytes that a data line spells behind its space
abbrev pub data_read : Bool → List ℕ → Option (List ℕ)
data_read print [] = None
data_read print (byte ∷ text) = if byte == 32 then bytes_spelled print text else None

-- the number of a record as a key
abbrev pub number_key : Option (List ℕ) → Option Key
number_key None = None
number_key (Some bytes) = if is_record_number (Some bytes) then Some (Number (digits_value bytes)) else None

-- bytes as a key
abbrev pub bytes_key : Option (List ℕ) → Option Key
bytes_key None = None
bytes_key (Some bytes) = Some (Bytes bytes)

-- the key that bytes are: the number of a record, or the bytes
abbrev pub key_read : Bool → Option (List ℕ) → Option Key
key_read true bytes = number_key bytes
key_read false bytes = bytes_key bytes

-- a pair before those that follow, where all are there
abbrev pub with_text_pair : Option Key → Option (List ℕ) → ℕ → Option (List TextPair) → Option (List TextPair)
with_text_pair (Some key) (Some value) line (Some pairs) = Some (record { key = key; value = value; line = line } ∷ pairs)
with_text_pair (Some key) (Some value) line None = None
with_text_pair (Some key) None line pairs = None
with_text_pair None value line pairs = None

-- a key and its data in turn
abbrev pub keyed_pairs : Bool → Bool → ℕ → List (List ℕ) → Option (List TextPair)
keyed_pairs print numbered at [] = Some []
keyed_pairs print numbered at (key ∷ []) = None
keyed_pairs print numbered at (key ∷ value ∷ lines) =
    with_text_pair (key_read numbered (data_read print key)) (data_read print value) at (keyed_pairs print numbered (at + 2) lines)

-- data alone: their keys count from 1
abbrev pub counted_pairs : Bool → ℕ → ℕ → List (List ℕ) → Option (List TextPair)
counted_pairs print number at [] = Some []
counted_pairs print number at (value ∷ lines) = with_text_pair (Some (Number number)) (data_read print value) at
    (counted_pairs print (number + 1) (at + 1) lines)

-- the pairs of data lines
abbrev pub pairs_read : Values → ℕ → List (List ℕ) → Option (List TextPair)
pairs_read header at lines = if has_keys header then keyed_pairs (prints header) (has_record_type header) at lines else counted_pairs (prints header) 1 at lines

-- Sections: VERSION=3, a header and its end, and data lines.

-- a section of these pairs
abbrev pub with_pairs : ℕ → Values → Option (List TextPair) → Option Section
with_pairs at header None = None
with_pairs at header (Some pairs) = Some (record { name = name_in header; settings = settings_in header; header_line = at; pairs = pairs })

-- the header's end is the line behind its lines
abbrev pub parts_read : List (Option (List ℕ)) → ℕ → Option Parts → Option Section
parts_read names at None = None
parts_read names at (Some parts) =
    if header_fits names parts.header
    then with_pairs (at + length parts.header) (values parts.header) (pairs_read (values parts.header) (at + length parts.header + 1) parts.data_lines)
    else None

-- the section of lines of which the first has this number, behind sections of these names; its last line, DATA=END, isn't among them
unfoldable pub section_read : List (Option (List ℕ)) → ℕ → List (List ℕ) → Option Section
section_read names at [] = None
section_read names at (first ∷ lines) = if bytes_eq first version_line then parts_read names (at + 1) (parts_of lines) else None

-- A text: sections, each of whose lines end with DATA=END.

-- a section before those that follow
abbrev pub with_section : Option Section → Option (List Section) → Option (List Section)
with_section None others = None
with_section (Some section) None = None
with_section (Some section) (Some others) = Some (section ∷ others)

-- whether no line is left over behind the last DATA=END
abbrev pub nothing_left : List (List ℕ) → Option (List Section)
nothing_left [] = Some []
nothing_left (line ∷ lines) = None

-- the section that this line ends, before those that follow; another line ends none
abbrev pub ending : List (Option (List ℕ)) → List (List ℕ) → ℕ → List ℕ → Option (List Section) → Option (List Section)
ending names before at line others = if is_data_end line then with_section (section_read names at before) others else others

-- the number of the first line of the section behind this line
abbrev pub begin_with : List (List ℕ) → ℕ → List ℕ → ℕ
begin_with before at line = if is_data_end line then at + length before + 1 else at

-- the sections that the lines give: `before` are those of the first of them that came before, and `at` is the number of its first line
abbrev pub sections_from : List (Option (List ℕ)) → List (List ℕ) → ℕ → List (List ℕ) → Option (List Section)
sections_from names before at [] = nothing_left before
sections_from names before at (line ∷ lines) =
    ending names before at line (sections_from (names_with names before line) (lines_with before line) (begin_with before at line) lines)

-- the sections of lines
abbrev pub sections_in : List (List ℕ) → Option (List Section)
sections_in [] = None
sections_in (line ∷ lines) = sections_from [] [] 1 (line ∷ lines)

-- the sections that a text is read as, where it is read
unfoldable pub text_sections : List ℕ → Option (List Section)
text_sections text = sections_in (text_lines text)

-- a text reads as these sections
abbrev pub Reads : List ℕ → List Section → Type 0
Reads text sections = text_sections text ≡ Some sections
