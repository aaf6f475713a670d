-- The pages of lists that are counted one by one are among those of the file.
use Rattle.std.proofs.Common.{◌≡◌, ℕ, ◌+◌, ◌*◌, ◌-◌, ◌<◌, ◌≤◌, ◌^◌, Bool, true, false, List, [], ◌∷◌, ◌++◌, length, map, Some, None, refl, sym, ◌∙◌, ap}
use Rattle.std.proofs.Common.{subst}
use Rattle.std.proofs.Common.{add-mul, append-nil, append_assoc, arith, drop, inl, inr, if◌then◌else◌, length-drop, length-take, mul-le-mul_right}
use Rattle.std.proofs.Common.{◌&&◌, ◌==◌, Contains, fold}
use Rattle.std.specs.List.{All, filter, list_all, sum_by}
use Rattle.std.proofs.lemmas.Bool.{lt-ltb}
use Rattle.std.proofs.lemmas.List.{map-append}
use Rattle.std.proofs.lemmas.List.Elements.{All-append, All-cons, All-head, All-nil, All-tail}
use Rattle.std.proofs.lemmas.List.Sums.{sum_by-append, sum_by_push}
use Rattle.bdb_format.specs.declared.settings.Settings.{Settings}
use Rattle.bdb_format.proofs.MemberLemmas.{first_member, later_member, of_filter}
use Rattle.bdb_mkfile.specs.of_text_format.declared.pairs.TextPair.{TextPair}
use Rattle.bdb_mkfile.specs.of_text_format.declared.sections.Section.{Section}
use Rattle.bdb_mkfile.specs.of_text_format.of_places.declared.place.Place.{Place}
use Rattle.bdb_mkfile.specs.of_text_format.of_places.declared.place.PlacedKey.{PlacedKey}
use Rattle.bdb_mkfile.specs.of_text_format.of_places.declared.place.PlacedKey.TheVariants.{Bytes as BytesAt, Number as NumberAt}
use Rattle.bdb_mkfile.specs.of_text_format.of_places.declared.span.Span.{Span}
use Rattle.bdb_mkfile.specs.of_text_format.of_places.Places.{span_in}
use Rattle.bdb_mkfile.specs.of_text_format.Terms.{is_queue, placed_key, placed_pairs}
use Rattle.bdb_mkfile.specs.of_settle.Loaded.{filled_section, loaded_section, ordered, ordered_section, unnumbered}
use Rattle.bdb_mkfile.specs.of_settle.LoadErrors.{is_too_wide, load_error, sooner}
use Rattle.bdb_mkfile.specs.of_settle.declared.load_error.LoadError.{LoadError}
use Rattle.bdb_mkfile.specs.of_settle.declared.load_error.LoadError.TheVariants.{Memory, TooLarge}
use Rattle.bdb_mkfile.proofs.of_settle.FillingLemmas.{sections_filled}
use Rattle.bdb_mkfile.specs.of_law_sections.Fit.{IsFitSection}
use Rattle.bdb_mkfile.specs.of_need.of_mktree.Lists.{bytes_in}
use Rattle.bdb_mkfile.specs.of_need.Need.{AreSettled, is_short, need_of, section_pages}
use Rattle.bdb_mkfile.proofs.of_need.NeedLemmas.{short_bytes}
use Rattle.bdb_mkfile.specs.Lengths.{is_short_pair, is_short_section}
use Rattle.bdb_mkfile.specs.Builds.{Builds}
use Rattle.bdb_mkfile.specs.Loading.{AreLoadable, IsLoadRefusal, IsLoadRefusalBy, loading_error}
use Rattle.bdb_mkfile.proofs.FitLemmas.{are_settled}
use Rattle.bdb_mkfile.proofs.ShortLemmas.{all_short, sections_needed}
use Rattle.bdb_law_kept.specs.Kept.{HasNoErrors}
use Rattle.bdb_law_kept.proofs.DumpLemmas.{none_of_pairs}
use Rattle.bdb_onto.specs.declared.base.Base.{Base}
use Rattle.bdb_onto.specs.Bases.{IsBase}
use Rattle.bdb_onto.specs.Laws.{AreLoadableOnto}
use Rattle.bdb_onto.specs.Lists.{AreListedTo, AreListsOnto, IsCountable, IsListRefusal, IsPartRefusal, alone, list_bytes}
use Rattle.bdb_onto.specs.Onto.{BuildsOnto, HasNoErrorsOnto, IsOntoRefusal, is_left, joined, joined_section, loaded_onto, loading_error_onto, onto_error}
use Rattle.bdb_onto.specs.Onto.{result_of, size_error_onto, size_onto}
use Rattle.bdb_onto.proofs.BaseLemmas.{IsOfBase, in_base_already, no_own_errors, of_base}
use Rattle.bdb_onto.proofs.AgainLemmas.{ordered_builds, ordered_loadable, ordered_loading, ordered_refusal, ordered_without_errors}
use Rattle.bdb_onto.proofs.BuildLemmas.{joined_build_onto}
use Rattle.bdb_onto.proofs.ErrorLemmas.{joined_load_without_errors, joined_pairs, no_section_errors}
use Rattle.bdb_onto.proofs.FitLemmas.{joined_are_loadable}
use Rattle.bdb_onto.proofs.JoinLemmas.{joined_result}
use Rattle.bdb_onto.proofs.OntoLemmas.{load_refusal, none_onto}

-- Pairs in a run that is short are short.

span_short : (bytes : List ℕ) (span : Span) → is_short bytes ≡ true → is_short (span_in bytes span) ≡ true
span_short bytes span short =
    let whole : length bytes < 2 ^ 32 = short_bytes bytes short in
    let from : length (drop span.start bytes) ≡ length bytes - span.start = length-drop span.start bytes in
    let part = length-take (span.end - span.start) (drop span.start bytes) in
    lt-ltb (length (span_in bytes span)) (2 ^ 32) (omega (arith, whole, from, part))

key_short : (bytes : List ℕ) (key : PlacedKey) → is_short bytes ≡ true → is_short (bytes_in (placed_key bytes key)) ≡ true
key_short bytes (BytesAt span) short = span_short bytes span short
key_short bytes (NumberAt number) short = refl

pub placed_short : (bytes : List ℕ) (places : List Place) → is_short bytes ≡ true → list_all is_short_pair (placed_pairs bytes places) ≡ true
placed_short bytes [] short = refl
placed_short bytes (place ∷ places) short =
    both (both (key_short bytes place.key short) (span_short bytes place.value short)) (placed_short bytes places short)
  where
    both : {a b : Bool} → a ≡ true → b ≡ true → (a && b) ≡ true
    both {a} {b} first second = ap (λ t. t && b) first ∙ second

-- A list whose pages can be counted.

alone_without_errors : (size : ℕ) (section : Section) → IsCountable size section → load_error (alone section.settings section.pairs ∷ []) ≡ None
alone_without_errors size section countable =
    let it : Section = alone section.settings section.pairs in
    ap (λ errors. fold sooner None (errors ++ []))
    (no_section_errors section.settings.page_size true it
    (subst (λ n. is_too_wide n section.settings ≡ false) (sym countable.sized) countable.wide) (by_test (is_queue section.settings.kind)) countable.pairs)
  where
    by_test : (b : Bool) → (b && false) ≡ false
    by_test true = refl
    by_test false = refl

-- it is settled, once its records are filled up
pub list_settled : (size : ℕ) (section : Section) (list : List TextPair) → IsCountable size section
    → list ≡ map unnumbered (ordered section.settings section.pairs) → list_all is_short_pair list ≡ true
    → AreSettled (filled_section (alone section.settings list) ∷ [])
list_settled size section list countable is short =
    let it : Section = alone section.settings section.pairs in
    let passes : list_all is_short_section (map ordered_section (it ∷ [])) ≡ true =
    ap (λ b. b && true) (sym (ap (list_all is_short_pair) is) ∙ short) in
    subst (λ (ps : List TextPair). AreSettled (filled_section (alone section.settings ps) ∷ [])) (sym is)
    (are_settled (it ∷ []) (map filled_section (map ordered_section (it ∷ []))) (record {
      most = countable.most;
      fit = record {
        some = refl;
        each = All-cons (IsFitSection countable.most) it [] (record { settings = countable.fit.settings; pairs = countable.fit.pairs })
            (All-nil (IsFitSection countable.most));
        names = (refl, refl, tt);
      };
      short = all_short (it ∷ []) passes;
      none = alone_without_errors size section countable;
      lists = sections_filled (it ∷ []);
    }))

-- Bytes.

pub bytes_more : (size : ℕ) (lists : List Section) (list : Section)
    → list_bytes size (lists ++ list ∷ []) ≡ list_bytes size lists + section_pages size (filled_section list) * size
bytes_more size lists list =
    ap (λ ls. sum_by (section_pages size) ls * size) (map-append filled_section lists (list ∷ []))
    ∙ ap (λ n. n * size) (sum_by_push (section_pages size) (map filled_section lists) (filled_section list))
    ∙ add-mul (sum_by (section_pages size) (map filled_section lists)) (section_pages size (filled_section list)) size

-- the bytes so far and those of the pages of one more list are those of all of them
pub list_counted : (size taken pages : ℕ) (lists : List Section) (section : Section) (own : List TextPair) → section.settings.page_size ≡ size
    → own ≡ map unnumbered (ordered section.settings section.pairs)
    → pages ≡ section_pages section.settings.page_size (filled_section (alone section.settings own))
    → taken ≡ list_bytes size lists → taken + pages * size ≡ list_bytes size (lists ++ ordered_section section ∷ [])
list_counted size taken pages lists section own sized is counted so_far =
    let here : pages ≡ section_pages size (filled_section (ordered_section section)) =
    counted
    ∙ ap (λ (n : ℕ). section_pages n (filled_section (alone section.settings own))) sized
    ∙ ap (λ (ps : List TextPair). section_pages size (filled_section (alone section.settings ps))) is in
    ap (λ n. n + pages * size) so_far
    ∙ ap (λ n. list_bytes size lists + n * size) here
    ∙ sym (bytes_more size lists (ordered_section section))

-- All sections that are joined can be counted.

section_countable : (base : Base) (alone : Bool) (most : ℕ) (section : Section) → IsBase base → IsFitSection most (joined_section base section)
    → HasNoErrorsOnto base alone section → IsCountable base.page_size (joined_section base section)
section_countable base alone most section is fit none = record {
  most = most;
  sized = refl;
  fit = fit;
  wide = none.wide;
  pairs = joined_pairs base section is none.pairs;
}

left_countable : (base : Base) (most : ℕ) (database : Section) → IsFitSection most database → IsOfBase base database
    → IsCountable base.page_size database
left_countable base most database fit of =
    let none : HasNoErrors database.settings database.pairs = no_own_errors base database of in
    let size : database.settings.page_size ≡ base.page_size = sym (ap (λ (s : Settings). s.page_size) (in_base_already base database of)) in
    record {
      most = most;
      sized = size;
      fit = fit;
      wide = subst (λ n. is_too_wide n database.settings ≡ false) size none.wide;
      pairs = none_of_pairs database.settings database.pairs none.each;
    }

all_countable : (base : Base) (alone : Bool) (most : ℕ) (sections : List Section) → IsBase base
    → All (IsFitSection most) (map (joined_section base) sections) → All (HasNoErrorsOnto base alone) sections
    → All (IsCountable base.page_size) (map (joined_section base) sections)
all_countable base alone most [] is fit none = All-nil (IsCountable base.page_size)
all_countable base alone most (section ∷ sections) is fit none =
    All-cons (IsCountable base.page_size) (joined_section base section) (map (joined_section base) sections)
    (section_countable base alone most section is (All-head (IsFitSection most) (joined_section base section) (map (joined_section base) sections) fit)
    (All-head (HasNoErrorsOnto base alone) section sections none))
    (all_countable base alone most sections is (All-tail (IsFitSection most) (joined_section base section) (map (joined_section base) sections) fit)
    (All-tail (HasNoErrorsOnto base alone) section sections none))

left_all : (base : Base) (most : ℕ) (left : List Section) → All (IsFitSection most) left
    → ((database : Section) → Contains left database → IsOfBase base database) → All (IsCountable base.page_size) left
left_all base most [] fit of = All-nil (IsCountable base.page_size)
left_all base most (x ∷ xs) fit of =
    All-cons (IsCountable base.page_size) x xs (left_countable base most x (All-head (IsFitSection most) x xs fit) (of x (first_member x xs)))
    (left_all base most xs (All-tail (IsFitSection most) x xs fit) (λ database at. of database (later_member x xs database at)))

append_parts : {X : Type 0} (P : X → Type 0) (xs ys : List X) → All P (xs ++ ys) → All P xs × All P ys
append_parts P [] ys all = (All-nil P, all)
append_parts P (x ∷ xs) ys all =
    let rest = append_parts P xs ys (All-tail P x (xs ++ ys) all) in (All-cons P x xs (All-head P x (xs ++ ys) all) rest.0, rest.1)

pub joined_countable : (base : Base) (sections : List Section) → AreLoadableOnto base sections
    → All (IsCountable base.page_size) (joined base sections)
joined_countable base sections loadable =
    let fit = joined_are_loadable base sections loadable in
    let first : List Section = map (joined_section base) sections in
    let left : List Section = filter (is_left sections) base.databases in
    let parts = append_parts (IsFitSection fit.most) first left fit.fit.each in
    All-append (IsCountable base.page_size) first left
    (all_countable base (length sections == 1) fit.most sections loadable.base_is parts.0 loadable.none)
    (left_all base fit.most left parts.1 (λ database at.
    of_base base database loadable.base_is (of_filter (is_left sections) base.databases database at).0))

-- The first lists have no more bytes than the file.

joined_needs : (base : Base) (sections : List Section) → AreLoadableOnto base sections
    → sum_by (section_pages base.page_size) (map loaded_section (joined base sections)) ≤ need_of (result_of base sections)
joined_needs base [] loadable = absurd (cc loadable.fit.fit.some)
joined_needs base (first ∷ rest) loadable =
    subst (λ ss. sum_by (section_pages base.page_size) ss ≤ need_of (result_of base (first ∷ rest)))
    (sym (joined_result base (first ∷ rest) loadable.base_is))
    (sections_needed (loaded_onto base first) (map (loaded_onto base) rest ++ filter (is_left (first ∷ rest)) base.databases))

pub above_all : (max : ℕ) (base : Base) (sections done rest : List Section) → AreLoadableOnto base sections → joined base sections ≡ done ++ rest
    → max < list_bytes base.page_size (map ordered_section done) → size_error_onto max base sections ≡ Some TooLarge
above_all max base sections done rest loadable are above =
    let size : ℕ = base.page_size in
    let some : ℕ = sum_by (section_pages size) (map loaded_section done) in
    let whole : sum_by (section_pages size) (map loaded_section (joined base sections))
    ≡ some + sum_by (section_pages size) (map loaded_section rest) =
    ap (λ ss. sum_by (section_pages size) (map loaded_section ss)) are
    ∙ ap (sum_by (section_pages size)) (map-append loaded_section done rest)
    ∙ sum_by-append (section_pages size) (map loaded_section done) (map loaded_section rest) in
    let few : some ≤ need_of (result_of base sections) = omega (arith, whole, joined_needs base sections loadable) in
    let bytes : some * size ≤ size_onto base sections = mul-le-mul_right size few in
    let taken : max < some * size = subst (λ ss. max < sum_by (section_pages size) ss * size) (sections_filled done) above in
    ap (λ b. if b then Some TooLarge else None) (lt-ltb max (size_onto base sections) (omega (arith, bytes, taken)))

-- a refusal of a list is one of loading onto the base
pub list_refused : (max : ℕ) (base : Base) (sections all : List Section) (error : LoadError) → AreLoadableOnto base sections
    → onto_error base sections ≡ None → all ≡ joined base sections → IsPartRefusal base.page_size max all error → IsOntoRefusal max base sections error
list_refused max base sections all error loadable none are part =
    subst (λ first. IsLoadRefusalBy first (size_error_onto max base sections) error) (sym none)
    (elim part.refused [
      | inl memory ↦ inl memory
      | inr large ↦
          inr (above_all max base sections part.done part.rest loadable (sym are ∙ part.split) large.1 ∙ ap (λ e. Some e) (sym large.0))
    ])

-- Lists that stand so far.

pub none_listed : (all : List Section) → AreListedTo all [] all
none_listed all = record { done = []; split = refl; lists_are = refl }

pub one_listed : (all lists more : List Section) (section : Section) (rest : List Section) → AreListedTo all lists (section ∷ rest)
    → more ≡ lists ++ ordered_section section ∷ [] → AreListedTo all more rest
one_listed all lists more section rest to are = record {
  done = to.done ++ section ∷ [];
  split = to.split ∙ sym (append_assoc to.done (section ∷ []) rest);
  lists_are = are ∙ ap (λ ls. ls ++ ordered_section section ∷ []) to.lists_are ∙ sym (map-append ordered_section to.done (section ∷ []));
}

pub all_listed : (all lists : List Section) → AreListedTo all lists [] → lists ≡ map ordered_section all
all_listed all lists to = to.lists_are ∙ ap (map ordered_section) (sym (append-nil to.done) ∙ sym to.split)

-- memory may run out, and the next list may be one too many
pub memory_refused : (size max : ℕ) (all : List Section) (error : LoadError) → error ≡ Memory → IsPartRefusal size max all error
memory_refused size max all error is = record { done = []; rest = all; split = refl; refused = inl is }

pub next_refused : (size max : ℕ) (all lists : List Section) (section : Section) (rest : List Section) (error : LoadError)
    → AreListedTo all lists (section ∷ rest) → IsListRefusal size max (lists ++ ordered_section section ∷ []) error
    → IsPartRefusal size max all error
next_refused size max all lists section rest error to refused =
    let more = one_listed all lists (lists ++ ordered_section section ∷ []) section rest to refl in
    record {
      done = more.done;
      rest = rest;
      split = more.split;
      refused = subst (λ ls. IsListRefusal size max ls error) more.lists_are refused;
    }

-- All lists, as sections.

pub lists_are_loadable : (base : Base) (sections lists : List Section) → AreListsOnto base sections lists → AreLoadable lists
lists_are_loadable base sections lists onto =
    subst AreLoadable (sym onto.are) (ordered_loadable (joined base sections) (joined_are_loadable base sections onto.loadable))

pub lists_without_errors : (base : Base) (sections lists : List Section) → AreListsOnto base sections lists → load_error lists ≡ None
lists_without_errors base sections lists onto =
    ap load_error onto.are ∙ ordered_without_errors (joined base sections) (joined_load_without_errors base sections onto.loadable)

pub lists_build_onto : (base : Base) (sections lists : List Section) (image : List ℕ) → AreListsOnto base sections lists → Builds lists image
    → BuildsOnto base sections image
lists_build_onto base sections lists image onto builds =
    (joined_build_onto base sections onto.loadable).built image
    (ordered_builds (joined base sections) image (subst (λ all. Builds all image) onto.are builds))

pub lists_sound : (max : ℕ) (base : Base) (sections lists : List Section) → AreListsOnto base sections lists → onto_error base sections ≡ None
    → loading_error max lists ≡ None → loading_error_onto max base sections ≡ None
lists_sound max base sections lists onto none is =
    none_onto max base sections onto.loadable none
    (ordered_loading max (joined base sections) (joined_load_without_errors base sections onto.loadable)
    (subst (λ all. loading_error max all ≡ None) onto.are is))

pub lists_refused : (max : ℕ) (base : Base) (sections lists : List Section) (error : LoadError) → AreListsOnto base sections lists
    → onto_error base sections ≡ None → IsLoadRefusal max lists error → IsOntoRefusal max base sections error
lists_refused max base sections lists error onto none is =
    load_refusal max base sections error onto.loadable none
    (ordered_refusal max (joined base sections) error (joined_load_without_errors base sections onto.loadable)
    (subst (λ all. IsLoadRefusal max all error) onto.are is))
