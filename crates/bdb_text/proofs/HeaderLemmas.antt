-- The text of a header, row by row.
use Rattle.std.proofs.Common.{◌≡◌, ◌∙◌, ℕ, Bool, true, false, if◌then◌else◌, List, [], ◌∷◌, ◌++◌, refl, sym, ap, append_assoc, map, Option, flat_map}
use Rattle.std.proofs.lemmas.List.{append-nil}
use Rattle.std.proofs.lemmas.Grind.{flat_map-append}
use Rattle.bdb_spelling.specs.of_format.declared.settings.Settings.{Settings}
use Rattle.bdb_spelling.specs.of_format.Terms.{Row}
use Rattle.bdb_spelling.specs.of_text_format.Terms.{HeaderLine, entry_line, header_end, header_table, header_text, line, version_line, written}
use Rattle.bdb_text.specs.Headers.{rows_text}

-- the lines of the entries whose test holds are those of the rows
one_row : (holds : Bool) (entry : HeaderLine) (entries : List HeaderLine) (rest : List ℕ) → flat_map line (map entry_line entries) ≡ rest
    → flat_map line (map entry_line (if holds then entry ∷ entries else entries)) ≡ (if holds then line (entry_line entry) else []) ++ rest
one_row true entry entries rest is = ap (λ (text : List ℕ). line (entry_line entry) ++ text) is
one_row false entry entries rest is = is

lines_of_rows : (rows : List (Row HeaderLine)) → flat_map line (map entry_line (written rows)) ≡ rows_text rows
lines_of_rows [] = refl
lines_of_rows (row ∷ rows) = one_row row.holds row.code (written rows) (rows_text rows) (lines_of_rows rows)

-- the first line, those of the rows, and the last
pub header_by_rows : (print : Bool) (name : Option (List ℕ)) (settings : Settings)
    → header_text print name settings ≡ (line version_line ++ rows_text (header_table print name settings)) ++ line header_end
unfolding header_text
header_by_rows print name settings =
    ap (λ (text : List ℕ). line version_line ++ text)
    (flat_map-append line (map entry_line (written (header_table print name settings))) (header_end ∷ [])
    ∙ ap (λ (text : List ℕ). text ++ (line header_end ++ [])) (lines_of_rows (header_table print name settings))
    ∙ ap (λ (text : List ℕ). rows_text (header_table print name settings) ++ text) (append-nil (line header_end)))
    ∙ sym (append_assoc (line version_line) (rows_text (header_table print name settings)) (line header_end))
