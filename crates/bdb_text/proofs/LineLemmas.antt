-- Lines of a text that was written.
use Rattle.std.proofs.Common.{◌≡◌, ℕ, ◌==◌, ◌&&◌, Bool, true, false, not, if◌then◌else◌, List, [], ◌∷◌, ◌++◌, map, Option, Some, None, refl, ap, ◌∙◌}
use Rattle.std.proofs.Common.{append_assoc, ◌+◌, length}
use Rattle.std.proofs.lemmas.List.{append-nil}
use Rattle.std.proofs.lemmas.Bool.{or_parts}
use Rattle.std.specs.List.{list_any, flat_map}
use Rattle.std.specs.Str.{bytes_eq}
use Rattle.bdb_spelling.specs.of_text_format.Terms.{HeaderLine, data_end, entries, entry_line, entry_of, given, is_data_end, keyword_fits, keyword_named, line}
use Rattle.bdb_spelling.specs.of_text_format.Terms.{name_of, section_read, sections_from, text_lines, with_section, written}
use Rattle.bdb_spelling.specs.of_format.Terms.{Row}
use Rattle.bdb_text.proofs.PartLemmas.{has_data_end}

-- a line has no line feed
abbrev pub has_feed : List ℕ → Bool
has_feed bytes = list_any (λ (byte : ℕ). byte == 10) bytes

pub text_lines-line : (bytes rest : List ℕ) → has_feed bytes ≡ false → text_lines (bytes ++ 10 ∷ rest) ≡ bytes ∷ text_lines rest
text_lines-line [] rest h = refl
text_lines-line (byte ∷ bytes) rest h =
    let both = or_parts (byte == 10) (has_feed bytes) h in
    rw (both.0, text_lines-line bytes rest both.1) refl

pub text_lines-lines : (lines : List (List ℕ)) → list_any has_feed lines ≡ false → text_lines (flat_map line lines) ≡ lines
text_lines-lines [] h = refl
text_lines-lines (first ∷ lines) h =
    let both = or_parts (has_feed first) (list_any has_feed lines) h in
    let assoc = append_assoc first (10 ∷ []) (flat_map line lines) in
    rw assoc (text_lines-line first (flat_map line lines) both.0 ∙ ap (λ (s : List (List ℕ)). first ∷ s) (text_lines-lines lines both.1))

-- the lines of one section, and those behind it
pub sections_from-section : (names : List (Option (List ℕ))) (at : ℕ) (before lines rest : List (List ℕ)) → has_data_end lines ≡ false
    → sections_from names before at (lines ++ data_end ∷ rest)
    ≡ with_section (section_read names at (before ++ lines))
    (sections_from (names ++ name_of (before ++ lines) ∷ []) [] (at + length (before ++ lines) + 1) rest)
sections_from-section names at before [] rest d = rw (append-nil before) refl
sections_from-section names at before (line ∷ lines) rest d =
    let parts = or_parts (is_data_end line) (has_data_end lines) d in
    rw parts.0 (sections_from-section names at (before ++ line ∷ []) lines rest parts.1
    ∙ ap (λ (b : List (List ℕ)). with_section (section_read names at b) (sections_from (names ++ name_of b ∷ []) [] (at + length b + 1) rest))
    (append_assoc before (line ∷ []) lines))

-- Entries of a table.

-- a name has no equals sign
abbrev pub has_equals : List ℕ → Bool
has_equals bytes = list_any (λ (byte : ℕ). byte == 61) bytes

pub entry_of-line : (name value : List ℕ) → has_equals name ≡ false → entry_of (name ++ 61 ∷ value) ≡ Some (record { name = name; value = value })
entry_of-line [] value h = refl
entry_of-line (byte ∷ name) value h =
    let both = or_parts (byte == 61) (has_equals name) h in
    rw (both.0, entry_of-line name value both.1) refl

abbrev pub names_have_equals : List (Row HeaderLine) → Bool
names_have_equals rows = list_any (λ (row : Row HeaderLine). has_equals row.code.name) rows

-- the value of a table's first row of this name, where it is written
abbrev pub looked_up : List ℕ → List (Row HeaderLine) → Option (List ℕ)
looked_up name [] = None
looked_up name (row ∷ rows) = if bytes_eq row.code.name name then (if row.holds then Some row.code.value else looked_up name rows) else looked_up name rows

given-written_by : (name : List ℕ) (row : Row HeaderLine) (holds same : Bool) (others : List HeaderLine) (rest : Option (List ℕ)) → given name others ≡ rest
    → row.holds ≡ holds → bytes_eq row.code.name name ≡ same
    → given name (if row.holds then row.code ∷ others else others)
    ≡ (if bytes_eq row.code.name name then (if row.holds then Some row.code.value else rest) else rest)
given-written_by name row true true others rest e h s = rw (h, s) refl
given-written_by name row true false others rest e h s = rw (h, s) e
given-written_by name row false true others rest e h s = rw (h, s) e
given-written_by name row false false others rest e h s = rw (h, s) e

pub given-written : (name : List ℕ) (rows : List (Row HeaderLine)) → given name (written rows) ≡ looked_up name rows
given-written name [] = refl
given-written name (row ∷ rows) = given-written_by name row row.holds (bytes_eq row.code.name name) (written rows) (looked_up name rows)
    (given-written name rows) refl refl

entries-written_by : (row : Row HeaderLine) (holds : Bool) (others : List HeaderLine) → row.holds ≡ holds → has_equals row.code.name ≡ false
    → entries (map entry_line others) ≡ others
    → entries (map entry_line (if row.holds then row.code ∷ others else others)) ≡ (if row.holds then row.code ∷ others else others)
entries-written_by row true others h n e =
    let one = entry_of-line row.code.name row.code.value n in
    rw (h, one, e) refl
entries-written_by row false others h n e = rw h e

pub entries-written : (rows : List (Row HeaderLine)) → names_have_equals rows ≡ false → entries (map entry_line (written rows)) ≡ written rows
entries-written [] h = refl
entries-written (row ∷ rows) h =
    let both = or_parts (has_equals row.code.name) (names_have_equals rows) h in
    entries-written_by row row.holds (written rows) refl both.0 (entries-written rows both.1)

-- A table's entries fit: each value fits its keyword, and no name stands twice.

-- no earlier row has this name
abbrev pub is_named : List ℕ → List (Row HeaderLine) → Bool
is_named name rows = list_any (λ (row : Row HeaderLine). bytes_eq row.code.name name) rows

-- each row fits, and no row has the name of an earlier one
abbrev pub table_fits : List (Row HeaderLine) → List (Row HeaderLine) → Bool
table_fits before [] = true
table_fits before (row ∷ rows) =
    not (is_named row.code.name before) && (keyword_fits row.code (keyword_named row.code.name) && table_fits (before ++ row ∷ []) rows)

pub looked_up-unnamed : (name : List ℕ) (rows : List (Row HeaderLine)) → is_named name rows ≡ false → looked_up name rows ≡ None
looked_up-unnamed name [] h = refl
looked_up-unnamed name (row ∷ rows) h =
    let both = or_parts (bytes_eq row.code.name name) (is_named name rows) h in
    rw both.0 (looked_up-unnamed name rows both.1)
