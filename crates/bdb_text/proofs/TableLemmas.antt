-- The table of a written header.
use Rattle.std.proofs.Common.{◌≡◌, ℕ, ◌&&◌, Bool, true, false, not, if◌then◌else◌, List, [], ◌∷◌, ◌++◌, map, None, refl, ap, ◌∙◌}
use Rattle.std.proofs.lemmas.List.{append-nil}
use Rattle.std.proofs.lemmas.Bool.{or_parts, and_parts, not-true}
use Rattle.std.specs.List.{list_any}
use Rattle.bdb_spelling.specs.of_format.Terms.{Row}
use Rattle.bdb_spelling.specs.of_text_format.Terms.{HeaderLine, entry_line, given, keyword_fits, keyword_named, lines_fit, written}
use Rattle.bdb_text.proofs.LineLemmas.{entries-written, entry_of-line, given-written, has_equals, is_named, looked_up-unnamed, names_have_equals, table_fits}

pub list_any-append : (test : List ℕ → Bool) (a b : List (List ℕ)) → list_any test a ≡ false → list_any test b ≡ false → list_any test (a ++ b) ≡ false
list_any-append test [] b h k = k
list_any-append test (x ∷ a) b h k =
    let both = or_parts (test x) (list_any test a) h in
    rw (both.0, list_any-append test a b both.1 k) refl

any-written_by : (test : List ℕ → Bool) (row : Row HeaderLine) (holds : Bool) (others : List HeaderLine) → row.holds ≡ holds → test (entry_line row.code) ≡ false
    → list_any test (map entry_line others) ≡ false → list_any test (map entry_line (if row.holds then row.code ∷ others else others)) ≡ false
any-written_by test row true others h t o = rw (h, t) o
any-written_by test row false others h t o = rw h o

pub any-written : (test : List ℕ → Bool) (rows : List (Row HeaderLine)) → list_any (λ (row : Row HeaderLine). test (entry_line row.code)) rows ≡ false
    → list_any test (map entry_line (written rows)) ≡ false
any-written test [] h = refl
any-written test (row ∷ rows) h =
    let both = or_parts (test (entry_line row.code)) (list_any (λ (row : Row HeaderLine). test (entry_line row.code)) rows) h in
    any-written_by test row row.holds (written rows) refl both.0 (any-written test rows both.1)

-- one row more
written-more_by : (rows more : List (Row HeaderLine)) (first row : Row HeaderLine) → written more ≡ written rows ++ (if row.holds then row.code ∷ [] else [])
    → (holds : Bool) → first.holds ≡ holds → written (first ∷ more) ≡ written (first ∷ rows) ++ (if row.holds then row.code ∷ [] else [])
written-more_by rows more first row e true h = rw (h, e) refl
written-more_by rows more first row e false h = rw (h, e) refl

written-more : (rows : List (Row HeaderLine)) (row : Row HeaderLine) → written (rows ++ row ∷ []) ≡ written rows ++ (if row.holds then row.code ∷ [] else [])
written-more [] row = refl
written-more (first ∷ rows) row = written-more_by rows (rows ++ row ∷ []) first row (written-more rows row) first.holds refl

map-append_one : (a b : List HeaderLine) → map entry_line (a ++ b) ≡ map entry_line a ++ map entry_line b
map-append_one [] b = refl
map-append_one (x ∷ a) b = ap (λ (s : List (List ℕ)). entry_line x ∷ s) (map-append_one a b)

names_more : (rows : List (Row HeaderLine)) (row : Row HeaderLine) → names_have_equals rows ≡ false → has_equals row.code.name ≡ false
    → names_have_equals (rows ++ row ∷ []) ≡ false
names_more [] row h e = rw e refl
names_more (first ∷ rows) row h e =
    let both = or_parts (has_equals first.code.name) (names_have_equals rows) h in
    rw (both.0, names_more rows row both.1 e) refl

-- the lines of a table fit a header
lines_fit-step : (before : List (Row HeaderLine)) (row : Row HeaderLine) (rows : List (Row HeaderLine)) → names_have_equals before ≡ false → has_equals row.code.name ≡ false
    → is_named row.code.name before ≡ false → keyword_fits row.code (keyword_named row.code.name) ≡ true
    → lines_fit (map entry_line (written (before ++ row ∷ []))) (map entry_line (written rows)) ≡ true
    → (holds : Bool) → row.holds ≡ holds
    → lines_fit (map entry_line (written before)) (map entry_line (if row.holds then row.code ∷ written rows else written rows)) ≡ true
lines_fit-step before row rows n e unnamed fits more true h =
    let one = entry_of-line row.code.name row.code.value e in
    let all = entries-written before n in
    let none : given row.code.name (written before) ≡ None = given-written row.code.name before ∙ looked_up-unnamed row.code.name before unnamed in
    let lines : map entry_line (written (before ++ row ∷ [])) ≡ map entry_line (written before) ++ entry_line row.code ∷ [] =
    ap (λ (s : List HeaderLine). map entry_line s) (written-more before row ∙ ap (λ (b : Bool). written before ++ (if b then row.code ∷ [] else [])) h)
    ∙ map-append_one (written before) (row.code ∷ []) in
    let rest = rw lines at more in
    rw (h, one, all, none, fits) rest
lines_fit-step before row rows n e unnamed fits more false h =
    let lines : map entry_line (written (before ++ row ∷ [])) ≡ map entry_line (written before) =
    ap (λ (s : List HeaderLine). map entry_line s) (written-more before row ∙ ap (λ (b : Bool). written before ++ (if b then row.code ∷ [] else [])) h
    ∙ append-nil (written before)) in
    rw h (rw lines at more)

pub lines_fit-table : (before rows : List (Row HeaderLine)) → names_have_equals before ≡ false → names_have_equals rows ≡ false → table_fits before rows ≡ true
    → lines_fit (map entry_line (written before)) (map entry_line (written rows)) ≡ true
lines_fit-table before [] n m h = refl
lines_fit-table before (row ∷ rows) n m h =
    let names = or_parts (has_equals row.code.name) (names_have_equals rows) m in
    let first = and_parts (not (is_named row.code.name before)) (keyword_fits row.code (keyword_named row.code.name) && table_fits (before ++ row ∷ []) rows)
    h in
    let second = and_parts (keyword_fits row.code (keyword_named row.code.name)) (table_fits (before ++ row ∷ []) rows) first.1 in
    lines_fit-step before row rows n names.0 (not-true (is_named row.code.name before) first.0) second.0
    (lines_fit-table (before ++ row ∷ []) rows (names_more before row n names.0) names.1 second.1) row.holds refl
