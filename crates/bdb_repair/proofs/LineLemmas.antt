-- The numbers of lines have no part in what is built, and in whether an error of loading holds.
use Rattle.std.proofs.Common.{◌≡◌, ℕ, ◌*◌, Bool, true, false, cond, List, [], ◌∷◌, ◌++◌, length, map, Option, Some, None, refl, sym, ◌∙◌, ap, subst}
use Rattle.std.proofs.lemmas.List.{length-map}
use Rattle.std.specs.Prelude.{◌==◌, if◌then◌else◌}
use Rattle.std.specs.List.{AllZip, flat_map, fold}
use Rattle.bdb_model.specs.of_format.declared.settings.Settings.{Settings}
use Rattle.bdb_model.specs.of_format.Terms.{Database, databases, file_of, less}
use Rattle.bdb_model.specs.of_text_format.declared.pairs.Pair.{Pair}
use Rattle.bdb_model.specs.of_text_format.declared.pairs.TextPair.{TextPair}
use Rattle.bdb_model.specs.of_text_format.declared.sections.Section.{Section}
use Rattle.bdb_model.specs.of_text_format.Terms.{listed}
use Rattle.bdb_mkfile.specs.of_settle.declared.load_error.LoadError.{LoadError}
use Rattle.bdb_mkfile.specs.of_settle.declared.load_error.LoadError.TheVariants.{RecordTooLong, RecordZero, QueueAmongNames}
use Rattle.bdb_mkfile.specs.of_settle.Loaded.{loaded, loaded_pair, loaded_section, unnumbered, with_loaded}
use Rattle.bdb_mkfile.specs.of_settle.LoadErrors.{header_errors, is_among_names, is_sooner, is_too_long, is_too_wide, is_zero, load_error, page_size_in, pair_errors}
use Rattle.bdb_mkfile.specs.of_settle.LoadErrors.{section_errors, sooner, where_so}
use Rattle.bdb_mkfile.specs.of_need.Need.{need_of}
use Rattle.bdb_mkfile.specs.Builds.{AreLoadedAs, IsLoadedAs, image_size, in_name_order, name_of, put_named}
use Rattle.bdb_repair.specs.Reads.{LinesHaveNoPart, unlined, without_lines}

-- What is built.

loaded_pairs : (settings : Settings) (pairs : List TextPair) → map (loaded_pair settings) (map unlined pairs) ≡ map (loaded_pair settings) pairs
loaded_pairs settings [] = refl
loaded_pairs settings (pair ∷ pairs) = ap (λ (ps : List Pair). loaded_pair settings pair ∷ ps) (loaded_pairs settings pairs)

loaded_alike : (settings : Settings) (pairs : List TextPair) → loaded settings (map unlined pairs) ≡ loaded settings pairs
loaded_alike settings pairs = ap (fold (with_loaded settings) []) (loaded_pairs settings pairs)

section_alike : (section : Section) → loaded_section (without_lines section) ≡ loaded_section section
section_alike section =
    ap (λ (list : List Pair). record section { header_line = 0; pairs = map unnumbered list }) (loaded_alike section.settings section.pairs)

sections_alike : (sections : List Section) → map loaded_section (map without_lines sections) ≡ map loaded_section sections
sections_alike [] = refl
sections_alike (section ∷ sections) =
    ap (λ (one : Section). one ∷ map loaded_section (map without_lines sections)) (section_alike section)
    ∙ ap (λ (rest : List Section). loaded_section section ∷ rest) (sections_alike sections)

pub size_alike : (sections : List Section) → image_size (map without_lines sections) ≡ image_size sections
size_alike [] = refl
size_alike (section ∷ sections) =
    ap (λ (all : List Section). need_of all * section.settings.page_size) (sections_alike (section ∷ sections))

put_alike : (section : Section) (sections : List Section) → put_named (without_lines section) (map without_lines sections)
    ≡ map without_lines (put_named section sections)
put_alike section [] = refl
put_alike section (other ∷ others) = by_test (less (name_of section) (name_of other)) (put_alike section others)
  where
    by_test : (b : Bool) → put_named (without_lines section) (map without_lines others) ≡ map without_lines (put_named section others)
        → cond b (without_lines section ∷ without_lines other ∷ map without_lines others)
        (without_lines other ∷ put_named (without_lines section) (map without_lines others))
        ≡ map without_lines (cond b (section ∷ other ∷ others) (other ∷ put_named section others))
    by_test true rest = refl
    by_test false rest = ap (λ (all : List Section). without_lines other ∷ all) rest

order_alike : (sections : List Section) → in_name_order (map without_lines sections) ≡ map without_lines (in_name_order sections)
order_alike [] = refl
order_alike (section ∷ sections) = ap (put_named (without_lines section)) (order_alike sections) ∙ put_alike section (in_name_order sections)

one_without : (image : List ℕ) (first : Settings) (section : Section) (database : Database) → IsLoadedAs image first section database
    → IsLoadedAs image first (without_lines section) database
one_without image first section database is = record {
  name = is.name;
  list = is.list ∙ ap listed (sym (loaded_alike section.settings section.pairs));
  settings = is.settings;
}

one_with : (image : List ℕ) (first : Settings) (section : Section) (database : Database) → IsLoadedAs image first (without_lines section) database
    → IsLoadedAs image first section database
one_with image first section database is = record {
  name = is.name;
  list = is.list ∙ ap listed (loaded_alike section.settings section.pairs);
  settings = is.settings;
}

all_without : (image : List ℕ) (first : Settings) (sections : List Section) (all : List Database) → AllZip (IsLoadedAs image first) sections all
    → AllZip (IsLoadedAs image first) (map without_lines sections) all
all_without image first [] [] are = tt
all_without image first [] (database ∷ all) are = are
all_without image first (section ∷ sections) [] are = are
all_without image first (section ∷ sections) (database ∷ all) are =
    (one_without image first section database are.0, all_without image first sections all are.1)

all_with : (image : List ℕ) (first : Settings) (sections : List Section) (all : List Database)
    → AllZip (IsLoadedAs image first) (map without_lines sections) all → AllZip (IsLoadedAs image first) sections all
all_with image first [] [] are = tt
all_with image first [] (database ∷ all) are = are
all_with image first (section ∷ sections) [] are = are
all_with image first (section ∷ sections) (database ∷ all) are =
    (one_with image first section database are.0, all_with image first sections all are.1)

databases_without : (image : List ℕ) (sections : List Section) → AreLoadedAs image sections → AreLoadedAs image (map without_lines sections)
databases_without image [] are = are
databases_without image (section ∷ sections) are =
    subst (λ all. AllZip (IsLoadedAs image section.settings) all (databases (file_of image))) (sym (order_alike (section ∷ sections)))
    (all_without image section.settings (in_name_order (section ∷ sections)) (databases (file_of image)) are)

databases_with : (image : List ℕ) (sections : List Section) → AreLoadedAs image (map without_lines sections) → AreLoadedAs image sections
databases_with image [] are = are
databases_with image (section ∷ sections) are =
    all_with image section.settings (in_name_order (section ∷ sections)) (databases (file_of image))
    (subst (λ all. AllZip (IsLoadedAs image section.settings) all (databases (file_of image))) (order_alike (section ∷ sections)) are)

pub lines_have_no_part : LinesHaveNoPart
lines_have_no_part sections built = (
  λ builds. record {
    sound = builds.sound;
    size = builds.size ∙ sym (size_alike sections);
    databases = databases_without built sections builds.databases;
  },
  λ builds. record {
    sound = builds.sound;
    size = builds.size ∙ size_alike sections;
    databases = databases_with built sections builds.databases;
  },
)

-- Errors.

-- joined lists have nothing only where each has
nothing_in : {A : Type 0} (xs ys : List A) → xs ++ ys ≡ [] → (xs ≡ []) × (ys ≡ [])
nothing_in [] ys none = (refl, none)
nothing_in (x ∷ xs) ys none = absurd (cc none)

-- whether there is an error doesn't depend on its line
no_where : (holds : Bool) (a b : LoadError) → where_so holds a ≡ [] → where_so holds b ≡ []
no_where true a b none = absurd (cc none)
no_where false a b none = refl

both_none : {A : Type 0} (xs ys : List A) → xs ≡ [] → ys ≡ [] → xs ++ ys ≡ []
both_none xs ys first second = rw (first, second) refl

no_pair_error : (settings : Settings) (pair : TextPair) → pair_errors settings (unlined pair) ≡ [] → pair_errors settings pair ≡ []
no_pair_error settings pair none =
    let parts = nothing_in (where_so (is_too_long settings pair) (RecordTooLong 0)) (where_so (is_zero pair.key) (RecordZero 0)) none in
    both_none (where_so (is_too_long settings pair) (RecordTooLong pair.line)) (where_so (is_zero pair.key) (RecordZero pair.line))
    (no_where (is_too_long settings pair) (RecordTooLong 0) (RecordTooLong pair.line) parts.0)
    (no_where (is_zero pair.key) (RecordZero 0) (RecordZero pair.line) parts.1)

no_pair_errors : (settings : Settings) (pairs : List TextPair) → flat_map (pair_errors settings) (map unlined pairs) ≡ []
    → flat_map (pair_errors settings) pairs ≡ []
no_pair_errors settings [] none = refl
no_pair_errors settings (pair ∷ pairs) none =
    let parts = nothing_in (pair_errors settings (unlined pair)) (flat_map (pair_errors settings) (map unlined pairs)) none in
    both_none (pair_errors settings pair) (flat_map (pair_errors settings) pairs) (no_pair_error settings pair parts.0) (no_pair_errors settings pairs parts.1)

no_section_error : (size : ℕ) (alone : Bool) (section : Section) → section_errors size alone (without_lines section) ≡ [] → section_errors size alone section
    ≡ []
no_section_error size alone section none =
    let parts =
    nothing_in (header_errors size alone (without_lines section)) (flat_map (pair_errors section.settings) (map unlined section.pairs)) none in
    let heads = nothing_in (where_so (is_too_wide size section.settings) (RecordTooLong 0)) (where_so (is_among_names alone section) (QueueAmongNames 0))
    parts.0 in
    both_none (header_errors size alone section) (flat_map (pair_errors section.settings) section.pairs)
    (both_none (where_so (is_too_wide size section.settings) (RecordTooLong section.header_line))
    (where_so (is_among_names alone section) (QueueAmongNames section.header_line))
    (no_where (is_too_wide size section.settings) (RecordTooLong 0) (RecordTooLong section.header_line) heads.0)
    (no_where (is_among_names alone section) (QueueAmongNames 0) (QueueAmongNames section.header_line) heads.1))
    (no_pair_errors section.settings section.pairs parts.1)

no_section_errors : (size : ℕ) (alone : Bool) (sections : List Section) → flat_map (section_errors size alone) (map without_lines sections) ≡ []
    → flat_map (section_errors size alone) sections ≡ []
no_section_errors size alone [] none = refl
no_section_errors size alone (section ∷ sections) none =
    let parts = nothing_in (section_errors size alone (without_lines section)) (flat_map (section_errors size alone) (map without_lines sections)) none in
    both_none (section_errors size alone section) (flat_map (section_errors size alone) sections) (no_section_error size alone section parts.0)
    (no_section_errors size alone sections parts.1)

-- where no error comes first there is none
no_first : (first : Option LoadError) (errors : List LoadError) → fold sooner first errors ≡ None → (first ≡ None) × (errors ≡ [])
no_first first [] none = (none, refl)
no_first None (error ∷ errors) none = let rest = no_first (Some error) errors none in absurd (cc (rest.0))
no_first (Some first) (error ∷ errors) none = by_test (is_sooner error first) (no_first (Some error) errors) (no_first (Some first) errors) none
  where
    by_test : (b : Bool) → (fold sooner (Some error) errors ≡ None → (◌≡◌ {A = Option LoadError} (Some error) None) × (errors ≡ []))
        → (fold sooner (Some first) errors ≡ None → (◌≡◌ {A = Option LoadError} (Some first) None) × (errors ≡ []))
        → fold sooner (if b then Some error else Some first) errors ≡ None
        → (◌≡◌ {A = Option LoadError} (Some first) None) × (◌≡◌ {A = List LoadError} (error ∷ errors) [])
    by_test true sooner_one other none = absurd (cc (sooner_one none).0)
    by_test false sooner_one other none = absurd (cc (other none).0)

size_in : (sections : List Section) → page_size_in (map without_lines sections) ≡ page_size_in sections
size_in [] = refl
size_in (section ∷ sections) = refl

pub no_errors_with_lines : (sections : List Section) → load_error (map without_lines sections) ≡ None → load_error sections ≡ None
no_errors_with_lines sections none =
    let alone : Bool = length sections == 1 in
    let same : load_error (map without_lines sections) ≡ fold sooner None (flat_map (section_errors (page_size_in sections) alone) (map without_lines sections))
    =
    ap (λ n. fold sooner None (flat_map (section_errors (page_size_in (map without_lines sections)) (n == 1)) (map without_lines sections)))
    (length-map sections without_lines)
    ∙ ap (λ size. fold sooner None (flat_map (section_errors size alone) (map without_lines sections))) (size_in sections) in
    let empty = no_first None (flat_map (section_errors (page_size_in sections) alone) (map without_lines sections)) (sym same ∙ none) in
    ap (fold sooner None) (no_section_errors (page_size_in sections) alone sections empty.1)
