-- Sections with their lists load as the sections that they were made of.
use Rattle.std.proofs.Common.{◌≡◌, ℕ, ◌*◌, Bool, true, false, not, List, [], ◌∷◌, ◌++◌, length, map, Option, Some, None, refl, sym, ◌∙◌, ap, subst, ◌&&◌, ◌||◌}
use Rattle.std.proofs.Common.{◌==◌}
use Rattle.std.proofs.Common.{true≢false, nat_lt, if◌then◌else◌}
use Rattle.std.specs.Cmp.{IsStrictWeakOrder}
use Rattle.std.specs.List.{All, AllZip, flat_map, fold}
use Rattle.std.proofs.lemmas.List.{length-map}
use Rattle.std.proofs.lemmas.List.Elements.{All-cons, All-head, All-nil, All-tail}
use Rattle.bdb_format.specs.declared.settings.Settings.{Settings}
use Rattle.bdb_format.specs.Terms.{Database, databases, file_of}
use Rattle.bdb_mkfile.specs.of_text_format.declared.pairs.Pair.{Pair}
use Rattle.bdb_mkfile.specs.of_text_format.declared.pairs.TextPair.{TextPair}
use Rattle.bdb_mkfile.specs.of_text_format.declared.sections.Section.{Section}
use Rattle.bdb_mkfile.specs.of_text_format.Terms.{holds_records, listed}
use Rattle.bdb_mkfile.specs.of_law_sections.Fit.{AreNamedBehind, IsFitPair, IsFitSection}
use Rattle.bdb_mkfile.specs.of_settle.Loaded.{keeps_data, loaded, loaded_section, ordered, ordered_section, stands_before, unlined, unlined_pairs}
use Rattle.bdb_mkfile.specs.of_settle.Loaded.{unnumbered, with_loaded}
use Rattle.bdb_mkfile.specs.of_settle.LoadErrors.{is_among_names, is_too_long, is_too_wide, is_zero, load_error, page_size_in, pair_errors, section_errors}
use Rattle.bdb_mkfile.specs.of_settle.LoadErrors.{sooner, where_so}
use Rattle.bdb_mkfile.specs.of_settle.Settling.{stays}
use Rattle.bdb_mkfile.specs.of_settle.declared.load_error.LoadError.{LoadError}
use Rattle.bdb_mkfile.specs.of_settle.declared.load_error.LoadError.TheVariants.{RecordTooLong, RecordZero, QueueAmongNames, TooLarge}
use Rattle.bdb_mkfile.proofs.of_settle.ErrorLemmas.{both_empty, each_empty, no_errors, not_so}
use Rattle.bdb_mkfile.proofs.of_settle.FillingLemmas.{fill, fold_filled}
use Rattle.bdb_mkfile.proofs.of_settle.KeyOrderLemmas.{pairs_weakly}
use Rattle.bdb_mkfile.proofs.of_settle.OrderedLemmas.{Ordered, OrderedFrom, fold_all, fold_ordered, follows}
use Rattle.bdb_mkfile.proofs.of_settle.PutLemmas.{above, below, put_behind}
use Rattle.bdb_mkfile.specs.of_need.Need.{need_of}
use Rattle.bdb_mkfile.proofs.of_need.NeedLemmas.{listed_again}
use Rattle.bdb_mkfile.specs.Builds.{AreLoadedAs, Builds, IsLoadedAs, image_size, in_name_order}
use Rattle.bdb_mkfile.specs.Loading.{AreLoadable, IsLoadRefusal, IsLoadRefusalBy, loading_error, or_else, size_error}
use Rattle.bdb_mkfile.proofs.ApartLemmas.{order_map}

-- A list in its order is what comes of its pairs.

or_one : (t : Bool) → (t || true) ≡ true
or_one true = refl
or_one false = refl

module _ (before : Pair → Pair → Bool) (weak : IsStrictWeakOrder before) (keeps : Bool) where
  not_back : (a b : Pair) → follows before keeps a b ≡ true → before b a ≡ false
  not_back a b after = by_test (before a b) (before b a) refl refl after
    where
      by_test : (first second : Bool) → before a b ≡ first → before b a ≡ second → (first || (not second && keeps)) ≡ true → before b a ≡ false
      by_test true second is is_back after = weak.one_way a b is
      by_test false true is is_back after = absurd (cc after)
      by_test false false is is_back after = is_back

  some_way : (a b : Pair) → follows before keeps a b ≡ true → (before a b || keeps) ≡ true
  some_way a b after = by_test (before a b) (before b a) keeps after
    where
      by_test : (first second k : Bool) → (first || (not second && k)) ≡ true → (first || k) ≡ true
      by_test true second k after = refl
      by_test false true k after = absurd (cc after)
      by_test false false k after = after

  -- what follows a pair stays behind it
  stays_so : (a b : Pair) → follows before keeps a b ≡ true → stays before keeps b a ≡ true
  stays_so a b after = ap (λ t. not t && (before a b || keeps)) (not_back a b after) ∙ some_way a b after

  follows_by : (a c : Pair) → before c a ≡ false → (before a c || keeps) ≡ true → follows before keeps a c ≡ true
  follows_by a c back some = ap (λ t. before a c || (not t && keeps)) back ∙ some

  follows_on : (a b c : Pair) → follows before keeps a b ≡ true → follows before keeps b c ≡ true → follows before keeps a c ≡ true
  follows_on a b c first second =
      follows_by a c (weak.chain c b a (not_back b c second) (not_back a b first)) (by_test (before a b) (before b c) keeps refl refl refl)
    where
      by_test : (ab bc k : Bool) → before a b ≡ ab → before b c ≡ bc → keeps ≡ k → (before a c || keeps) ≡ true
      by_test true bc k is_ab is_bc is_k = ap (λ t. t || keeps) (above before weak a b c is_ab (not_back b c second))
      by_test false true k is_ab is_bc is_k = ap (λ t. t || keeps) (below before weak a b c (not_back a b first) is_bc)
      by_test false false true is_ab is_bc is_k = ap (λ t. before a c || t) is_k ∙ or_one (before a c)
      by_test false false false is_ab is_bc is_k =
          absurd (true≢false (sym (some_way a b first) ∙ ap (λ t. t || keeps) is_ab ∙ is_k))

  from_earlier : (a b : Pair) (rest : List Pair) → follows before keeps a b ≡ true → OrderedFrom before keeps b rest → OrderedFrom before keeps a rest
  from_earlier a b [] first ordered = tt
  from_earlier a b (c ∷ rest) first ordered = (follows_on a b c first ordered.0, ordered.1)

  -- all that come behind a pair stay there
  all_stay : (a : Pair) (rest : List Pair) → OrderedFrom before keeps a rest → All (λ pair. stays before keeps pair a ≡ true) rest
  all_stay a [] ordered = All-nil (λ pair. stays before keeps pair a ≡ true)
  all_stay a (b ∷ rest) ordered =
      All-cons (λ pair. stays before keeps pair a ≡ true) b rest (stays_so a b ordered.0)
      (all_stay a rest (from_earlier a b rest ordered.0 ordered.1))

  tail_ordered : (a : Pair) (rest : List Pair) → OrderedFrom before keeps a rest → Ordered before keeps rest
  tail_ordered a [] ordered = tt
  tail_ordered a (b ∷ rest) ordered = ordered.1

-- the first pair is where it is, if all others stay behind it
first_stays : (settings : Settings) (first : Pair) (list rest : List Pair)
    → All (λ pair. stays (stands_before settings) (keeps_data settings) pair first ≡ true) rest
    → fold (with_loaded settings) (first ∷ list) rest ≡ first ∷ fold (with_loaded settings) list rest
first_stays settings first list [] all = refl
first_stays settings first list (pair ∷ rest) all =
    let P : Pair → Type 0 = λ pair. stays (stands_before settings) (keeps_data settings) pair first ≡ true in
    let Q : Pair → Type 0 = λ other. stays (stands_before settings) (keeps_data settings) pair other ≡ true in
    ap (λ l. fold (with_loaded settings) l rest)
    (put_behind (stands_before settings) (pairs_weakly settings) (keeps_data settings) pair (first ∷ []) list
    (All-cons Q first [] (All-head P pair rest all) (All-nil Q)))
    ∙ first_stays settings first (with_loaded settings list pair) rest (All-tail P pair rest all)

in_order : (settings : Settings) (list : List Pair) → Ordered (stands_before settings) (keeps_data settings) list
    → fold (with_loaded settings) [] list ≡ list
in_order settings [] order = refl
in_order settings (pair ∷ list) order =
    first_stays settings pair [] list (all_stay (stands_before settings) (pairs_weakly settings) (keeps_data settings) pair list order)
    ∙ ap (λ l. pair ∷ l)
    (in_order settings list (tail_ordered (stands_before settings) (pairs_weakly settings) (keeps_data settings) pair list order))

pub ordered_again : (settings : Settings) (pairs : List TextPair) → ordered settings (map unnumbered (ordered settings pairs)) ≡ ordered settings pairs
ordered_again settings pairs =
    ap (fold (with_loaded settings) []) (listed_again (ordered settings pairs))
    ∙ in_order settings (ordered settings pairs) (fold_ordered settings (unlined_pairs pairs) [] tt)

-- the list that is loaded is the one in order, filled up
pub loaded_again : (settings : Settings) (pairs : List TextPair) → loaded settings (map unnumbered (ordered settings pairs)) ≡ loaded settings pairs
loaded_again settings pairs =
    fold_filled settings (map unnumbered (ordered settings pairs)) []
    ∙ ap (map (fill settings)) (ordered_again settings pairs)
    ∙ sym (fold_filled settings pairs [])

pub sections_again : (sections : List Section) → map loaded_section (map ordered_section sections) ≡ map loaded_section sections
sections_again [] = refl
sections_again (section ∷ sections) =
    ap (λ (list : List Pair). record section { header_line = 0; pairs = map unnumbered list } ∷ map loaded_section (map ordered_section sections))
    (loaded_again section.settings section.pairs)
    ∙ ap (λ ss. loaded_section section ∷ ss) (sections_again sections)

-- They can be loaded.

-- what holds of pairs, whatever their lines, holds of those of their list
of_list : (P : Pair → Type 0) (pairs : List Pair) → All P pairs → (Q : TextPair → Type 0) → ((pair : Pair) → P pair → Q (unnumbered pair))
    → All Q (map unnumbered pairs)
of_list P [] all Q more = All-nil Q
of_list P (pair ∷ pairs) all Q more =
    All-cons Q (unnumbered pair) (map unnumbered pairs) (more pair (All-head P pair pairs all)) (of_list P pairs (All-tail P pair pairs all) Q more)

of_pairs : (P : Pair → Type 0) (Q : TextPair → Type 0) (pairs : List TextPair) → All Q pairs → ((pair : TextPair) → Q pair → P (unlined pair))
    → All P (unlined_pairs pairs)
of_pairs P Q [] all more = All-nil P
of_pairs P Q (pair ∷ pairs) all more =
    All-cons P (unlined pair) (unlined_pairs pairs) (more pair (All-head Q pair pairs all)) (of_pairs P Q pairs (All-tail Q pair pairs all) more)

-- of a list in order
pub of_ordered : (settings : Settings) (Q : TextPair → Type 0) (pairs : List TextPair) → All Q pairs
    → ((pair : TextPair) → Q pair → Q (unnumbered (unlined pair))) → All Q (map unnumbered (ordered settings pairs))
of_ordered settings Q pairs all more =
    let P : Pair → Type 0 = λ pair. Q (unnumbered pair) in
    of_list P (ordered settings pairs) (fold_all P settings (unlined_pairs pairs) [] (of_pairs P Q pairs all more) (All-nil P)) Q (λ pair is. is)

fit_unlined : (numbered : Bool) (most : ℕ) (pair : TextPair) → IsFitPair numbered most pair → IsFitPair numbered most (unnumbered (unlined pair))
fit_unlined numbered most pair fit = record { key = fit.key; key_length = fit.key_length; length = fit.length }

ordered_fits : (most : ℕ) (section : Section) → IsFitSection most section → IsFitSection most (ordered_section section)
ordered_fits most section fit =
    let numbered : Bool = holds_records section.settings.kind in
    record {
      settings = fit.settings;
      pairs = of_ordered section.settings (IsFitPair numbered most) section.pairs fit.pairs (fit_unlined numbered most);
    }

all_ordered_fit : (most : ℕ) (sections : List Section) → All (IsFitSection most) sections → All (IsFitSection most) (map ordered_section sections)
all_ordered_fit most [] all = All-nil (IsFitSection most)
all_ordered_fit most (section ∷ sections) all =
    All-cons (IsFitSection most) (ordered_section section) (map ordered_section sections)
    (ordered_fits most section (All-head (IsFitSection most) section sections all))
    (all_ordered_fit most sections (All-tail (IsFitSection most) section sections all))

ordered_named : (names : List (Option (List ℕ))) (sections : List Section) → AreNamedBehind names sections
    → AreNamedBehind names (map ordered_section sections)
ordered_named names [] named = tt
ordered_named names (section ∷ sections) named = (named.0, named.1, ordered_named (names ++ (section.name ∷ [])) sections named.2)

pub ordered_loadable : (sections : List Section) → AreLoadable sections → AreLoadable (map ordered_section sections)
ordered_loadable sections loadable = record {
  most = loadable.most;
  fit = record {
    some = ap (λ n. n == 0) (length-map sections ordered_section) ∙ loadable.fit.some;
    each = all_ordered_fit loadable.most sections loadable.fit.each;
    names = ordered_named [] sections loadable.fit.names;
  };
}

-- No error holds for them.

pub unlined_errors : (settings : Settings) (pair : TextPair) → pair_errors settings pair ≡ [] → pair_errors settings (unnumbered (unlined pair)) ≡ []
unlined_errors settings pair none =
    let parts = both_empty (where_so (is_too_long settings pair) (RecordTooLong pair.line)) (where_so (is_zero pair.key) (RecordZero pair.line)) none in
    ap (λ b. where_so b (RecordTooLong 0) ++ where_so (is_zero pair.key) (RecordZero 0))
    (not_so (is_too_long settings pair) (RecordTooLong pair.line) parts.0)
    ∙ ap (λ b. where_so b (RecordZero 0)) (not_so (is_zero pair.key) (RecordZero pair.line) parts.1)

all_empty : {X Y : Type 0} (f : X → List Y) (xs : List X) → All (λ x. f x ≡ []) xs → flat_map f xs ≡ []
all_empty f [] all = refl
all_empty f (x ∷ xs) all =
    ap (λ ys. ys ++ flat_map f xs) (All-head (λ y. f y ≡ []) x xs all) ∙ all_empty f xs (All-tail (λ y. f y ≡ []) x xs all)

ordered_errors : (size : ℕ) (alone : Bool) (section : Section) → section_errors size alone section ≡ []
    → section_errors size alone (ordered_section section) ≡ []
ordered_errors size alone section none =
    let line = section.header_line in
    let settings : Settings = section.settings in
    let of_width : List LoadError = where_so (is_too_wide size settings) (RecordTooLong line) in
    let of_names : List LoadError = where_so (is_among_names alone section) (QueueAmongNames line) in
    let parts = both_empty (of_width ++ of_names) (flat_map (pair_errors settings) section.pairs) none in
    let header = both_empty of_width of_names parts.0 in
    let list : List TextPair = map unnumbered (ordered settings section.pairs) in
    let empty : flat_map (pair_errors settings) list ≡ [] =
    all_empty (pair_errors settings) list
    (of_ordered settings (λ pair. pair_errors settings pair ≡ []) section.pairs (each_empty (pair_errors settings) section.pairs parts.1)
    (unlined_errors settings)) in
    ap (λ b. (where_so b (RecordTooLong 0) ++ where_so (is_among_names alone section) (QueueAmongNames 0)) ++ flat_map (pair_errors settings) list)
    (not_so (is_too_wide size settings) (RecordTooLong line) header.0)
    ∙ ap (λ b. where_so b (QueueAmongNames 0) ++ flat_map (pair_errors settings) list)
    (not_so (is_among_names alone section) (QueueAmongNames line) header.1)
    ∙ empty

all_ordered_errors : (size : ℕ) (alone : Bool) (sections : List Section) → All (λ section. section_errors size alone section ≡ []) sections
    → flat_map (section_errors size alone) (map ordered_section sections) ≡ []
all_ordered_errors size alone [] all = refl
all_ordered_errors size alone (section ∷ sections) all =
    ap (λ errors. errors ++ flat_map (section_errors size alone) (map ordered_section sections))
    (ordered_errors size alone section (All-head (λ s. section_errors size alone s ≡ []) section sections all))
    ∙ all_ordered_errors size alone sections (All-tail (λ s. section_errors size alone s ≡ []) section sections all)

same_page_size : (sections : List Section) → page_size_in (map ordered_section sections) ≡ page_size_in sections
same_page_size [] = refl
same_page_size (section ∷ sections) = refl

pub ordered_without_errors : (sections : List Section) → load_error sections ≡ None → load_error (map ordered_section sections) ≡ None
ordered_without_errors sections none =
    let size : ℕ = page_size_in sections in
    let alone : Bool = length sections == 1 in
    ap (λ n. fold sooner None (flat_map (section_errors n (length (map ordered_section sections) == 1)) (map ordered_section sections)))
    (same_page_size sections)
    ∙ ap (λ n. fold sooner None (flat_map (section_errors size (n == 1)) (map ordered_section sections))) (length-map sections ordered_section)
    ∙ ap (fold sooner None)
    (all_ordered_errors size alone sections
    (each_empty (section_errors size alone) sections (no_errors (flat_map (section_errors size alone) sections) none)))

-- What is built of them.

pub ordered_size : (sections : List Section) → image_size (map ordered_section sections) ≡ image_size sections
ordered_size [] = refl
ordered_size (section ∷ sections) = ap (λ ss. need_of ss * section.settings.page_size) (sections_again (section ∷ sections))

loaded_as : (image : List ℕ) (first : Settings) (sections : List Section) (all : List Database)
    → AllZip (IsLoadedAs image first) (map ordered_section sections) all → AllZip (IsLoadedAs image first) sections all
loaded_as image first [] [] zip = tt
loaded_as image first [] (database ∷ all) zip = absurd zip
loaded_as image first (section ∷ sections) [] zip = absurd zip
loaded_as image first (section ∷ sections) (database ∷ all) zip = (
  record { name = zip.0.name; list = zip.0.list ∙ ap listed (loaded_again section.settings section.pairs); settings = zip.0.settings },
  loaded_as image first sections all zip.1,
)

all_loaded_as : (image : List ℕ) (sections : List Section) → AreLoadedAs image (map ordered_section sections) → AreLoadedAs image sections
all_loaded_as image [] are = are
all_loaded_as image (section ∷ sections) are =
    loaded_as image section.settings (in_name_order (section ∷ sections)) (databases (file_of image))
    (subst (λ ss. AllZip (IsLoadedAs image section.settings) ss (databases (file_of image)))
    (order_map ordered_section (λ s. refl) (section ∷ sections)) are)

pub ordered_builds : (sections : List Section) (image : List ℕ) → Builds (map ordered_section sections) image → Builds sections image
ordered_builds sections image builds = record {
  sound = builds.sound;
  size = builds.size ∙ ordered_size sections;
  databases = all_loaded_as image sections builds.databases;
}

-- Refusals.

pub ordered_refusal : (max : ℕ) (sections : List Section) (error : LoadError) → load_error sections ≡ None
    → IsLoadRefusal max (map ordered_section sections) error → IsLoadRefusal max sections error
ordered_refusal max sections error none is =
    subst (λ first. IsLoadRefusalBy first (size_error max sections) error) (ordered_without_errors sections none ∙ sym none)
    (subst (λ n. IsLoadRefusalBy (load_error (map ordered_section sections)) (if nat_lt max n then Some TooLarge else None) error)
    (ordered_size sections) is)

pub ordered_loading : (max : ℕ) (sections : List Section) → load_error sections ≡ None → loading_error max (map ordered_section sections) ≡ None
    → loading_error max sections ≡ None
ordered_loading max sections none is =
    ap (λ first. or_else first (size_error max sections)) (none ∙ sym (ordered_without_errors sections none))
    ∙ ap (λ n. or_else (load_error (map ordered_section sections)) (if nat_lt max n then Some TooLarge else None)) (sym (ordered_size sections))
    ∙ is
