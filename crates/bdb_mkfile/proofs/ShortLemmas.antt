-- Lengths of names, keys and data: what a test of them says, and that a long one makes the image too large.
use Rattle.std.proofs.Common.{◌≡◌, ℕ, ◌+◌, ◌-◌, ◌*◌, ◌<◌, ◌≤◌, ◌^◌, Bool, true, false, cond, List, [], ◌∷◌, ◌++◌, length, map, arith, refl, sym, ◌∙◌, ap, subst}
use Rattle.std.proofs.Common.{inl, inr, Option, Some, None, get_or, length-append, true≢false, ◌%◌, ◌&&◌, if◌then◌else◌, is_some, nat_lt}
use Rattle.bdb_mkfile.proofs.Common.{both_true, All, list_all, sum_by, and_parts, lt-ltb, nat_tests, All-cons, All-head, All-map, All-nil, All-tail, All-weaker, fold-map, Kind, Btree, Recno, Hash}
use Rattle.bdb_mkfile.proofs.Common.{Queue, Settings, is_page_size, Pair, Key, Bytes, Number, TextPair, Section, holds_records, AreFit, AreNamedBehind, IsFitPair, IsFitSection, is_number, IsShort}
use Rattle.bdb_mkfile.proofs.Common.{HasNumber, bytes_in, TooLarge, HasShortBytes, load_error, filled_value, has_length, loaded, loaded_pair, loaded_section, ordered, ordered_section, unnumbered}
use Rattle.bdb_mkfile.proofs.Common.{IsSound, sound_pairs, fill, fold_filled, filled_short, fold_all, is_short, list_pages, master_pages, master_settings, name_in, need_of, section_pages, sized}
use Rattle.bdb_mkfile.proofs.Common.{HasShortName, listed_again, short_bytes, name_entry, image_size, in_name_order, put_named, is_short_pair, is_short_section, size_error, AreApart, IsApart, named_before}
use Rattle.bdb_need.specs.of_settle.Loaded.{unlined, unlined_pairs}
use Rattle.bdb_mkfile.proofs.ApartLemmas.{all_named, alone_unnamed, named_apart}
use Rattle.bdb_mkfile.proofs.LongLemmas.{in_sum, no_bytes, short_keyed, short_records}
use Rattle.bdb_mkfile.proofs.MasterLemmas.{master_same}

-- Tests.

passes : (bytes : List ℕ) → IsShort bytes → is_short bytes ≡ true
passes bytes short = lt-ltb (length bytes) (2 ^ 32) short

list_passes : (list : List Pair) → All HasShortBytes list → list_all is_short_pair (map unnumbered list) ≡ true
list_passes [] all = refl
list_passes (pair ∷ list) all =
    let one : HasShortBytes pair = All-head HasShortBytes pair list all in
    both_true (both_true (passes (bytes_in pair.key) one.key) (passes pair.value one.value)) (list_passes list (All-tail HasShortBytes pair list all))

list_short : (list : List Pair) → list_all is_short_pair (map unnumbered list) ≡ true → All HasShortBytes list
list_short [] is = All-nil HasShortBytes
list_short (pair ∷ list) is =
    let parts = and_parts (is_short_pair (unnumbered pair)) (list_all is_short_pair (map unnumbered list)) is in
    let both = and_parts (is_short (bytes_in pair.key)) (is_short pair.value) parts.0 in
    All-cons HasShortBytes pair list (record { key = short_bytes (bytes_in pair.key) both.0; value = short_bytes pair.value both.1 })
    (list_short list parts.1)

-- Records that are filled up.

longer : (settings : Settings) (value : List ℕ) → length value ≤ length (filled_value settings value)
longer settings value = grind (arith, has_length, length-append)

unfilled : (settings : Settings) (list : List Pair) → All HasShortBytes (map (fill settings) list) → All HasShortBytes list
unfilled settings [] all = All-nil HasShortBytes
unfilled settings (pair ∷ list) all =
    let one : HasShortBytes (fill settings pair) = All-head HasShortBytes (fill settings pair) (map (fill settings) list) all in
    let short = one.value in
    All-cons HasShortBytes pair list (record { key = one.key; value = omega (arith, short, longer settings pair.value) })
    (unfilled settings list (All-tail HasShortBytes (fill settings pair) (map (fill settings) list) all))

-- a datum isn't longer than the fixed length
abbrev FitsLength : Settings → Pair → Type 0
FitsLength settings pair = (has_length settings && nat_lt settings.re_len (length pair.value)) ≡ false

filled_up : (settings : Settings) (list : List Pair) → settings.re_len < 2 ^ 32 → All (FitsLength settings) list → All HasShortBytes list
    → All HasShortBytes (map (fill settings) list)
filled_up settings [] below fits all = All-nil HasShortBytes
filled_up settings (pair ∷ list) below fits all =
    let one : HasShortBytes pair = All-head HasShortBytes pair list all in
    All-cons HasShortBytes (fill settings pair) (map (fill settings) list) (record {
      key = one.key;
      value = filled_short settings pair.value (has_length settings) refl below one.value (All-head (FitsLength settings) pair list fits);
    }) (filled_up settings list below (All-tail (FitsLength settings) pair list fits) (All-tail HasShortBytes pair list all))

-- the list of pairs, filled up
list_is : (settings : Settings) (pairs : List TextPair) → loaded settings pairs ≡ map (fill settings) (ordered settings pairs)
list_is settings pairs = fold_filled settings pairs []

-- what holds of all pairs holds of those of their list
of_ordered : (P : Pair → Type 0) (settings : Settings) (pairs : List TextPair) → All P (unlined_pairs pairs) → All P (ordered settings pairs)
of_ordered P settings pairs all = fold_all P settings (unlined_pairs pairs) [] all (All-nil P)

fit_lengths : (settings : Settings) (pairs : List TextPair) → All (IsSound settings) pairs → All (FitsLength settings) (unlined_pairs pairs)
fit_lengths settings [] sound = All-nil (FitsLength settings)
fit_lengths settings (pair ∷ pairs) sound =
    All-cons (FitsLength settings) (unlined pair) (unlined_pairs pairs) (All-head (IsSound settings) pair pairs sound).short
    (fit_lengths settings pairs (All-tail (IsSound settings) pair pairs sound))

-- where the list of a section is short, so is the one that is loaded
pub loaded_short : (section : Section) → All (IsSound section.settings) section.pairs → section.settings.re_len < 2 ^ 32
    → All HasShortBytes (ordered section.settings section.pairs) → All HasShortBytes (loaded section.settings section.pairs)
loaded_short section sound below short =
    let settings : Settings = section.settings in
    subst (All HasShortBytes) (sym (list_is settings section.pairs))
    (filled_up settings (ordered settings section.pairs) below
    (of_ordered (FitsLength settings) settings section.pairs (fit_lengths settings section.pairs sound)) short)

-- One section.

numbered : (key : Key) → is_number key ≡ true → HasNumber key
numbered (Bytes bytes) is = absurd cc
numbered (Number number) is = tt

have_numbers : (settings : Settings) (most : ℕ) (pairs : List TextPair) → holds_records settings.kind ≡ true
    → All (IsFitPair (holds_records settings.kind) most) pairs → All (λ (pair : Pair). HasNumber pair.key) (map (loaded_pair settings) pairs)
have_numbers settings most [] records fit = All-nil (λ (pair : Pair). HasNumber pair.key)
have_numbers settings most (pair ∷ pairs) records fit =
    let of : TextPair → Type 0 = IsFitPair (holds_records settings.kind) most in
    All-cons (λ (p : Pair). HasNumber p.key) (loaded_pair settings pair) (map (loaded_pair settings) pairs)
    (numbered pair.key ((All-head of pair pairs fit).key ∙ records)) (have_numbers settings most pairs records (All-tail of pair pairs fit))

-- the pair of a record, whose datum isn't longer than all may be
record IsRecordWithin (re_len : ℕ) (pair : Pair) : Type 0 where
  numbered : HasNumber pair.key
  within : length pair.value ≤ re_len

records_within : (settings : Settings) (most : ℕ) (pairs : List TextPair) → holds_records settings.kind ≡ true → has_length settings ≡ true
    → All (IsFitPair (holds_records settings.kind) most) pairs → All (IsSound settings) pairs
    → All (IsRecordWithin settings.re_len) (unlined_pairs pairs)
records_within settings most [] records fixed fit sound = All-nil (IsRecordWithin settings.re_len)
records_within settings most (pair ∷ pairs) records fixed fit sound =
    let of : TextPair → Type 0 = IsFitPair (holds_records settings.kind) most in
    let fits : nat_lt settings.re_len (length pair.value) ≡ false =
    sym (ap (λ b. b && nat_lt settings.re_len (length pair.value)) fixed) ∙ (All-head (IsSound settings) pair pairs sound).short in
    let within : length pair.value ≤ settings.re_len = grind (arith, nat_tests) in
    All-cons (IsRecordWithin settings.re_len) (unlined pair) (unlined_pairs pairs)
    (record { numbered = numbered pair.key ((All-head of pair pairs fit).key ∙ records); within = within })
    (records_within settings most pairs records fixed (All-tail of pair pairs fit) (All-tail (IsSound settings) pair pairs sound))

record_short : (re_len : ℕ) (pair : Pair) → re_len < 2 ^ 32 → IsRecordWithin re_len pair → HasShortBytes pair
record_short re_len pair below is = grind (arith, bytes_in, no_bytes, numbered)

-- a section among the pages of an image
pub record IsAmong (most size pages : ℕ) (section : Section) : Type 0 where
  pub fit : IsFitSection most section
  pub sound : All (IsSound section.settings) section.pairs
  pub held : list_pages section.settings.kind (sized size section) (loaded section.settings section.pairs) ≤ pages

-- the list of a section whose pages have few bytes is short
ordered_short : (k : Kind) (most size pages : ℕ) (section : Section) → section.settings.kind ≡ k → IsAmong most size pages section
    → is_page_size size ≡ true → pages * size ≤ 2 ^ 30 → All HasShortBytes (ordered section.settings section.pairs)
ordered_short Btree most size pages section same among legal few =
    let list : List Pair = loaded section.settings section.pairs in
    let held : list_pages Btree (record section.settings { kind = Btree; page_size = size }) list ≤ pages =
    subst (λ k. list_pages k (record section.settings { kind = k; page_size = size }) list ≤ pages) same among.held in
    unfilled section.settings (ordered section.settings section.pairs) (subst (All HasShortBytes) (list_is section.settings section.pairs)
    (short_keyed (sized size section) pages list legal few (inl held)))
ordered_short Recno most size pages section same among legal few =
    let list : List Pair = loaded section.settings section.pairs in
    let records : holds_records section.settings.kind ≡ true = ap holds_records same in
    let numbers : All (λ (pair : Pair). HasNumber pair.key) list =
    fold_all (λ (pair : Pair). HasNumber pair.key) section.settings (map (loaded_pair section.settings) section.pairs) []
    (have_numbers section.settings most section.pairs records among.fit.pairs) (All-nil (λ (pair : Pair). HasNumber pair.key)) in
    unfilled section.settings (ordered section.settings section.pairs) (subst (All HasShortBytes) (list_is section.settings section.pairs)
    (short_records (sized size section) pages list same legal few numbers
    (subst (λ k. list_pages k (sized size section) list ≤ pages) same among.held)))
ordered_short Hash most size pages section same among legal few =
    let list : List Pair = loaded section.settings section.pairs in
    unfilled section.settings (ordered section.settings section.pairs) (subst (All HasShortBytes) (list_is section.settings section.pairs)
    (short_keyed (sized size section) pages list legal few (inr (subst (λ k. list_pages k (sized size section) list ≤ pages) same among.held))))
ordered_short Queue most size pages section same among legal few =
    let settings : Settings = section.settings in
    let records : holds_records settings.kind ≡ true = ap holds_records same in
    let fixed : has_length settings ≡ true = both_true (among.fit.settings.fixed same) records in
    All-weaker (IsRecordWithin settings.re_len) HasShortBytes (λ pair. record_short settings.re_len pair among.fit.settings.re_len)
    (ordered settings section.pairs)
    (of_ordered (IsRecordWithin settings.re_len) settings section.pairs
    (records_within settings most section.pairs records fixed among.fit.pairs among.sound))

-- Names.

back_put : (P : Section → Type 0) (section : Section) (list : List Section) → All P (put_named section list) → P section × All P list
back_put P section [] all = (All-head P section [] all, All-nil P)
back_put P section (other ∷ others) all = by_test (named_before section other) all (back_put P section others)
  where
    by_test : (b : Bool) → All P (cond b (section ∷ other ∷ others) (other ∷ put_named section others))
        → (All P (put_named section others) → P section × All P others) → P section × All P (other ∷ others)
    by_test true all more = (All-head P section (other ∷ others) all, All-tail P section (other ∷ others) all)
    by_test false all more =
        let later = more (All-tail P other (put_named section others) all) in
        (later.0, All-cons P other others (All-head P other (put_named section others) all) later.1)

-- what holds of sections in the order of their names holds of them
back_order : (P : Section → Type 0) (sections : List Section) → All P (in_name_order sections) → All P sections
back_order P [] all = All-nil P
back_order P (section ∷ sections) all =
    let parts = back_put P section (in_name_order sections) all in All-cons P section sections parts.0 (back_order P sections parts.1)

entries_short : (sections : List Section) → All HasShortBytes (map name_entry sections) → All HasShortName sections
entries_short [] all = All-nil HasShortName
entries_short (section ∷ sections) all =
    All-cons HasShortName section sections (All-head HasShortBytes (name_entry section) (map name_entry sections) all).key
    (entries_short sections (All-tail HasShortBytes (name_entry section) (map name_entry sections) all))

names_loaded : (sections : List Section) → All HasShortName (map loaded_section sections) → All HasShortName sections
names_loaded [] all = All-nil HasShortName
names_loaded (section ∷ sections) all =
    All-cons HasShortName section sections (All-head HasShortName (loaded_section section) (map loaded_section sections) all)
    (names_loaded sections (All-tail HasShortName (loaded_section section) (map loaded_section sections) all))

pub settled_apart : (sections : List Section) → AreApart sections → AreApart (map loaded_section sections)
settled_apart [] apart = tt
settled_apart (section ∷ sections) apart = (All-map (IsApart (loaded_section section)) loaded_section sections apart.0, settled_apart sections apart.1)

-- names under a master whose pages have few bytes
under_master : (size pages : ℕ) (sections : List Section) → is_page_size size ≡ true → pages * size ≤ 2 ^ 30 → AreApart sections
    → master_pages size (map loaded_section sections) ≤ pages → All HasShortName sections
under_master size pages sections legal few apart held =
    let all : List Section = map loaded_section sections in
    let list : List Pair = map name_entry (in_name_order all) in
    let same : list_pages Btree (master_settings size) list ≡ master_pages size all = master_same size all (settled_apart sections apart) in
    names_loaded sections (back_order HasShortName all (entries_short (in_name_order all)
    (short_keyed (master_settings size) pages list legal few (inl (omega (arith, same, held))))))

no_name : (name : Option (List ℕ)) → is_some name ≡ false → IsShort (name_in name)
no_name None is = omega arith
no_name (Some name) is = absurd cc

-- All sections.

-- of a section: its name and its list
pub record HasShortList (section : Section) : Type 0 where
  pub name : IsShort (name_in section.name)
  pub list : All HasShortBytes (ordered section.settings section.pairs)

all_pass : (sections : List Section) → All HasShortList sections → list_all is_short_section (map ordered_section sections) ≡ true
all_pass [] all = refl
all_pass (section ∷ sections) all =
    let one : HasShortList section = All-head HasShortList section sections all in
    both_true (both_true (passes (name_in section.name) one.name) (list_passes (ordered section.settings section.pairs) one.list))
    (all_pass sections (All-tail HasShortList section sections all))

-- sections that pass the test are short
pub all_short : (sections : List Section) → list_all is_short_section (map ordered_section sections) ≡ true → All HasShortList sections
all_short [] is = All-nil HasShortList
all_short (section ∷ sections) is =
    let parts = and_parts (is_short_section (ordered_section section)) (list_all is_short_section (map ordered_section sections)) is in
    let both = and_parts (is_short (name_in section.name)) (list_all is_short_pair (map unnumbered (ordered section.settings section.pairs))) parts.0 in
    All-cons HasShortList section sections
    (record { name = short_bytes (name_in section.name) both.0; list = list_short (ordered section.settings section.pairs) both.1 })
    (all_short sections parts.1)

-- the pages of each list are among those that are needed
lists_held : (size pages : ℕ) (sections : List Section) → sum_by (section_pages size) (map loaded_section sections) ≤ pages
    → All (λ (section : Section). list_pages section.settings.kind (sized size section) (loaded section.settings section.pairs) ≤ pages) sections
lists_held size pages sections few =
    let own : Section → ℕ = λ section. section_pages size (loaded_section section) in
    let sum : sum_by (section_pages size) (map loaded_section sections) ≡ sum_by own sections =
    fold-map (λ sum section. sum + section_pages size section) loaded_section 0 sections in
    All-weaker (λ section. own section ≤ sum_by own sections)
    (λ (section : Section). list_pages section.settings.kind (sized size section) (loaded section.settings section.pairs) ≤ pages)
    (λ section low.
    let same = ap (list_pages section.settings.kind (sized size section)) (listed_again (loaded section.settings section.pairs)) in
    omega (arith, few, sum, low, same)) sections (in_sum own sections)

names_short : (most size pages : ℕ) (first : Section) (rest : List Section) → AreNamedBehind [] (first ∷ rest) → is_page_size size ≡ true
    → pages * size ≤ 2 ^ 30
    → (if is_some first.name then 1 + master_pages size (map loaded_section (first ∷ rest)) else 0) ≤ pages → All HasShortName (first ∷ rest)
names_short most size pages first rest named legal few held = by_name (is_some first.name) refl held
  where
    by_name : (b : Bool) → is_some first.name ≡ b → cond b (1 + master_pages size (map loaded_section (first ∷ rest))) 0 ≤ pages
        → All HasShortName (first ∷ rest)
    by_name true is held =
        under_master size pages (first ∷ rest) legal few (named_apart [] (first ∷ rest) (all_named first rest is named) named) (omega (arith, held))
    by_name false is held =
        subst (λ others. All HasShortName (first ∷ others)) (sym (alone_unnamed first rest is named))
        (All-cons HasShortName first [] (no_name first.name is) (All-nil HasShortName))

-- sections whose image has few bytes are short
few_short : (most : ℕ) (sections : List Section) → AreFit most sections → load_error sections ≡ None → image_size sections ≤ 2 ^ 30
    → All HasShortList sections
few_short most [] fit none few = All-nil HasShortList
few_short most (first ∷ rest) fit none few =
    let sections : List Section = first ∷ rest in
    let size : ℕ = first.settings.page_size in
    let pages : ℕ = need_of (map loaded_section sections) in
    let legal : is_page_size size ≡ true = (All-head (IsFitSection most) first rest fit.each).settings.page_size in
    let sum : ℕ = sum_by (section_pages size) (map loaded_section sections) in
    let master : ℕ = if is_some first.name then 1 + master_pages size (map loaded_section sections) else 0 in
    let whole : pages ≡ master + sum = refl in
    let names = names_short most size pages first rest fit.names legal few (omega (arith, whole)) in
    let lists = lists_held size pages sections (omega (arith, whole)) in
    let sound = sound_pairs sections none in
    λ k d low.
    let section : Section = get_or sections k d in
    record {
      name = names k d low;
      list = ordered_short section.settings.kind most size pages section refl
          (record { fit = fit.each k d low; sound = sound k d low; held = lists k d low }) legal few;
    }

-- where one isn't, the image is too large
pub too_long : (max most : ℕ) (sections : List Section) → max ≤ 2 ^ 30 → AreFit most sections → load_error sections ≡ None
    → list_all is_short_section (map ordered_section sections) ≡ false → size_error max sections ≡ Some TooLarge
too_long max most sections low fit none long = by_test (nat_lt max (image_size sections)) refl
  where
    by_test : (b : Bool) → nat_lt max (image_size sections) ≡ b → (if b then Some TooLarge else None) ≡ Some TooLarge
    by_test true is = refl
    by_test false is =
        let within : image_size sections ≤ max = grind (arith, nat_tests) in
        absurd (true≢false (sym (all_pass sections (few_short most sections fit none (omega (arith, within, low)))) ∙ long))

-- The pages of sections aren't more than are needed.

pub sections_needed : (first : Section) (rest : List Section) → sum_by (section_pages first.settings.page_size) (first ∷ rest) ≤ need_of (first ∷ rest)
sections_needed first rest = by_test (is_some first.name)
  where
    pages : ℕ
    pages = sum_by (section_pages first.settings.page_size) (first ∷ rest)

    by_test : (b : Bool) → pages ≤ cond b (1 + master_pages first.settings.page_size (first ∷ rest)) 0 + pages
    by_test true = omega arith
    by_test false = omega arith
