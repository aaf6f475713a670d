-- What is counted of a page: the live pairs or entries without those that are kept.
use Rattle.std.proofs.Common.{◌≡◌, ℕ, suc, ◌+◌, ◌-◌, ◌*◌, ◌/◌, ◌≤◌, ◌<◌, Bool, true, false, cond, List, [], ◌∷◌, ◌++◌, length, map, arith, refl, sym}
use Rattle.std.proofs.Common.{◌∙◌, ap, Option, Some, None}
use Rattle.std.proofs.lemmas.List.{length-map}
use Rattle.std.specs.Prelude.{nat_lt, ◌==◌, ◌&&◌, not}
use Rattle.std.specs.List.{count_by, enumerate_from, filter, flat_map, range_with_len}
use Rattle.std.proofs.lemmas.List.Sums.{length-filter, sum_by-cons}
use Rattle.std.proofs.lemmas.Bool.{and_parts, eqb-true}
use Rattle.bdb_apart.specs.of_format.Terms.{Chain, Content, File, Inline, Item, Page, RecnoLeaf, Set, Tree, Unknown, chain, entries_in, joined, page_at}
use Rattle.bdb_apart.specs.of_format.Terms.{pieces_of, value_of}
use Rattle.bdb_apart.specs.of_survey.Items.{is_valued, slot_at, slots_in}
use Rattle.bdb_apart.specs.of_survey.Salvage.{is_overflow, is_row, is_taken, is_whole, pair_in, paired_items, set_start, whole_values}
use Rattle.bdb_apart.specs.of_rescue.Kept.{IsKeptValue, data_at, data_here, data_places, given, item_of, kept_on, kept_pair, kept_value, numbered_at}
use Rattle.bdb_apart.specs.of_rescue.Kept.{untaken_on, value_at, values_in}
use Rattle.bdb_apart.specs.of_rescue.Kept.{values_on}
use Rattle.bdb_apart.specs.of_rescue.declared.kept.DataPlace.{DataPlace}
use Rattle.bdb_apart.specs.of_rescue.declared.kept.DataPlace.TheVariants.{Here, Set as OnLeaves}
use Rattle.bdb_apart.specs.of_rescue.declared.kept.KeptPair.{KeptPair}
use Rattle.bdb_apart.specs.of_rescue.declared.kept.KeptValue.{KeptValue}
use Rattle.bdb_apart.proofs.of_homes.Homes.{home}
use Rattle.bdb_apart.specs.Given.{is_record_page, numbered_entry}
use Rattle.bdb_apart.specs.Kept.{fits_in}
use Rattle.bdb_apart.specs.Left.{fit_left, fit_on, is_fit, loose_in, numbered_from, start_of, start_on}
use Rattle.bdb_apart.specs.declared.holds.Holds.{Holds}
use Rattle.bdb_apart.proofs.GivenLemmas.{enumerated, value_numbered}
use Rattle.bdb_apart.proofs.of_law_sums.CountLemmas.{sum_parts, sum_plus, sum_same}
use Rattle.bdb_apart.proofs.of_law_sums.NameLemmas.{sum_map}
use Rattle.bdb_apart.proofs.of_rescue.LooseCountLemmas.{one_at_most}
use Rattle.bdb_apart.proofs.of_rescue.LooseLemmas.{set_values}
use Rattle.bdb_apart.proofs.of_rescue.StoredLemmas.{AreOn}
use Rattle.bdb_damage.specs.Counts.{are_whole, is_lost_pair, lost_pairs_on}
use Rattle.bdb_damage.specs.Tallies.{is_fit_at, is_kept_live, is_live_pair, is_live_slot, is_lost_by, live_pairs_in, live_slots_in, lost_at}
use Rattle.bdb_damage.specs.Tallies.{lost_from}
use Rattle.bdb_damage.proofs.RoomLemmas.{places_short}

-- Pairs.

abbrev one : Bool → ℕ
one b = cond b 1 0

whole_places : (file : File) (content : Content) → are_whole file content ≡ nat_lt 0 (length (data_places file content))
whole_places file (Inline bytes) = refl
whole_places file (Set blocks) = refl
whole_places file (Chain head total) = by_whole (is_whole file head total)
  where
    by_whole : (whole : Bool) → whole ≡ nat_lt 0 (length (cond whole (Here ∷ []) []))
    by_whole true = refl
    by_whole false = refl
whole_places file (Tree root) = sym (ap (nat_lt 0) (length-map (set_start file root) OnLeaves))
whole_places file Unknown = refl

-- a live pair is lost or kept
by_places : (at : DataPlace → KeptPair) (deleted valued : Bool) (places : List DataPlace) → length places ≤ 1
    → ((place : DataPlace) → (at place).live ≡ not deleted)
    → one (not deleted && not (valued && nat_lt 0 (length places))) + count_by is_kept_live (cond valued (map at places) []) ≡ one (not deleted)
by_places at true false places short live = refl
by_places at false false places short live = refl
by_places at true true [] short live = refl
by_places at false true [] short live = refl
by_places at true true (x ∷ []) short live = omega (arith, ap one (live x), sum_by-cons (λ kept. one (is_kept_live kept)) (at x) [])
by_places at false true (x ∷ []) short live = omega (arith, ap one (live x), sum_by-cons (λ kept. one (is_kept_live kept)) (at x) [])
by_places at deleted true (x ∷ (y ∷ places)) short live = absurd (omega (arith, short))

pair_counted : (file : File) (p : ℕ) (items : List Item) (i : ℕ)
    → one (is_lost_pair file (pair_in items i)) + count_by is_kept_live (kept_pair file p items i) ≡ one (is_live_pair items i)
pair_counted file p items i =
    ap (λ whole. one (not item.deleted && not (is_valued file (slot_at items (2 * i)).content && whole)) + count_by is_kept_live (kept_pair file p items i))
    (whole_places file item.content)
    ∙ by_places (λ place. record { page = p; index = i; live = not item.deleted; place = place }) item.deleted
    (is_valued file (slot_at items (2 * i)).content) (data_places file item.content) (places_short file item.content) (λ place. refl)
  where
    item : Item
    item = slot_at items (2 * i + 1)

pairs_counted : (file : File) (p : ℕ) (items : List Item) (indices : List ℕ)
    → count_by (is_lost_pair file) (map (pair_in items) indices) + count_by is_kept_live (flat_map (kept_pair file p items) indices)
    ≡ count_by (is_live_pair items) indices
pairs_counted file p items indices =
    let lost : ℕ → ℕ = λ i. one (is_lost_pair file (pair_in items i)) in
    let kept : ℕ → ℕ = λ i. count_by is_kept_live (kept_pair file p items i) in
    omega (
      arith,
      sum_map (λ pair. one (is_lost_pair file pair)) (pair_in items) indices,
      sum_parts (λ place. one (is_kept_live place)) (kept_pair file p items) indices,
      sum_plus lost kept indices,
      sum_same (λ i. lost i + kept i) (λ i. one (is_live_pair items i)) indices (λ i inside. pair_counted file p items i),
    )

-- of the live pairs of a page those are lost that aren't kept
pub lost_pairs_are : (file : File) (p : ℕ)
    → lost_pairs_on file p + count_by is_kept_live (kept_on file p) ≡ live_pairs_in (paired_items (page_at file p))
lost_pairs_are file p =
    let items : List Item = paired_items (page_at file p) in
    pairs_counted file p items (range_with_len 0 (length items / 2))

-- Records.

by_entry : (test : (ℕ × List ℕ) → Bool) (deleted : Bool) (entry : List (ℕ × List ℕ)) → length entry ≤ 1 → (deleted ≡ true → length entry ≡ 0)
    → one (not deleted && length (filter test entry) == 0) + count_by test entry ≡ one (not deleted)
by_entry test true [] short none = refl
by_entry test true (x ∷ entry) short none = absurd (omega (arith, none refl))
by_entry test false [] short none = refl
by_entry test false (x ∷ []) short none = by_test (test x) (count_by test (x ∷ [])) (omega (arith, sum_by-cons (λ placed. one (test placed)) x []))
  where
    by_test : (b : Bool) (n : ℕ) → n ≡ one b → one (length (cond b (x ∷ []) []) == 0) + n ≡ 1
    by_test true n is = omega (arith, is)
    by_test false n is = omega (arith, is)
by_entry test false (x ∷ (y ∷ entry)) short none = absurd (omega (arith, short))

entry_few : (file : File) (number : ℕ) (item : Item) → length (numbered_entry file (number, item)) ≤ 1
entry_few file number item =
    by_deleted item.deleted
    (omega (arith, length-map {B = ℕ × List ℕ} (whole_values file item.content) (λ value. (number, value)), one_at_most file item.content))
  where
    by_deleted : (deleted : Bool) → length {A = ℕ × List ℕ} (map (λ value. (number, value)) (whole_values file item.content)) ≤ 1
        → length {A = ℕ × List ℕ} (map (λ value. (number, value)) (cond deleted [] (whole_values file item.content))) ≤ 1
    by_deleted true few = omega arith
    by_deleted false few = few

entry_none : (file : File) (number : ℕ) (item : Item) → item.deleted ≡ true → length (numbered_entry file (number, item)) ≡ 0
entry_none file number item deleted =
    ap (λ (b : Bool). length {A = ℕ × List ℕ} (map (λ value. (number, value)) (cond b [] (whole_values file item.content)))) deleted

entry_counted : (file : File) (holds : Holds) (p start : ℕ) (items : List Item) (i : ℕ) → AreOn file p items
    → one (is_lost_by file holds (start + 1 + i, slot_at items i)) + count_by (is_fit_at file holds start) (kept_value file p items i)
    ≡ one (is_live_slot items i)
entry_counted file holds p start items i on =
    let item : Item = slot_at items i in
    let number : ℕ = start + 1 + i in
    ap (λ n. one (is_lost_by file holds (number, item)) + n)
    (sym (sum_map (λ placed. one (fits_in holds placed)) (numbered_at file start) (kept_value file p items i))
    ∙ ap (count_by (fits_in holds)) (value_numbered file p i start items on))
    ∙ by_entry (fits_in holds) item.deleted (numbered_entry file (number, item)) (entry_few file number item) (entry_none file number item)

entries_counted : (file : File) (holds : Holds) (p start : ℕ) (items : List Item) (indices : List ℕ) → AreOn file p items
    → count_by (is_lost_by file holds) (map (λ i. (start + 1 + i, slot_at items i)) indices)
    + count_by (is_fit_at file holds start) (flat_map (kept_value file p items) indices)
    ≡ count_by (is_live_slot items) indices
entries_counted file holds p start items indices on =
    let lost : ℕ → ℕ = λ i. one (is_lost_by file holds (start + 1 + i, slot_at items i)) in
    let kept : ℕ → ℕ = λ i. count_by (is_fit_at file holds start) (kept_value file p items i) in
    omega (
      arith,
      sum_map (λ entry. one (is_lost_by file holds entry)) (λ i. (start + 1 + i, slot_at items i)) indices,
      sum_parts (λ place. one (is_fit_at file holds start place)) (kept_value file p items) indices,
      sum_plus lost kept indices,
      sum_same (λ i. lost i + kept i) (λ i. one (is_live_slot items i)) indices (λ i inside. entry_counted file holds p start items i on),
    )

page_counted : (file : File) (holds : Holds) (p start : ℕ) (page : Page) → page_at file p ≡ page → is_record_page page ≡ true
    → count_by (is_lost_by file holds) (enumerate_from (start + 1) (entries_in page))
    + count_by (is_fit_at file holds start) (values_in file p (entries_in page))
    ≡ live_slots_in (entries_in page)
page_counted file holds p start (RecnoLeaf page) is so =
    ap (λ entries. count_by (is_lost_by file holds) entries + count_by (is_fit_at file holds start) (values_in file p page.items))
    (enumerated (start + 1) page.items)
    ∙ entries_counted file holds p start page.items (range_with_len 0 (length page.items)) (λ j. ap (λ pg. slot_at (slots_in pg) j) is)
page_counted file holds p start page is so = absurd cc

start_leaf : (file : File) (p start : ℕ) → start_on file p ≡ Some start → is_record_page (page_at file p) ≡ true
start_leaf file p start is = by_leaf (is_record_page (page_at file p)) is
  where
    by_leaf : (leaf : Bool) → cond leaf (start_of (home file p)) None ≡ Some start → leaf ≡ true
    by_leaf true is = refl
    by_leaf false is = absurd cc

-- of the live entries of a leaf that no set takes those are lost that don't fit
pub lost_records_are : (file : File) (holds : Holds) (p start : ℕ) → start_on file p ≡ Some start → is_taken file p ≡ false
    → lost_at file holds p + count_by (is_fit_at file holds start) (untaken_on file p) ≡ live_slots_in (entries_in (page_at file p))
unfolding values_on
lost_records_are file holds p start is free =
    ap (λ (b : Bool). cond {A = ℕ} b 0 (lost_from file holds p (start_on file p)) + count_by (is_fit_at file holds start) (cond b [] (values_on file p))) free
    ∙ (ap (λ s. lost_from file holds p s + count_by (is_fit_at file holds start) (values_on file p)) is
    ∙ page_counted file holds p start (page_at file p) refl (start_leaf file p start is))

pub lost_taken : (file : File) (holds : Holds) (p : ℕ) → is_taken file p ≡ true → lost_at file holds p ≡ 0
lost_taken file holds p taken = ap (λ b. cond b 0 (lost_from file holds p (start_on file p))) taken

pub lost_nowhere : (file : File) (holds : Holds) (p : ℕ) → is_taken file p ≡ false → start_on file p ≡ None → lost_at file holds p ≡ 0
lost_nowhere file holds p free none =
    ap (λ b. cond b 0 (lost_from file holds p (start_on file p))) free ∙ ap (lost_from file holds p) none

-- what is left of the records of a page, by how many fit
pub loose_counted : (file : File) (holds : Holds) (start : ℕ) (places : List KeptValue)
    → length (loose_in (Some holds) (map (numbered_at file start) places)) + count_by (is_fit_at file holds start) places ≡ length places
loose_counted file holds start [] = refl
loose_counted file holds start (place ∷ places) =
    ap (λ n. length (loose_in (Some holds) (map (numbered_at file start) (place ∷ places))) + n)
    (sum_by-cons (λ at. one (is_fit_at file holds start at)) place places)
    ∙ by_fit (is_fit_at file holds start place) (loose_counted file holds start places)
  where
    rest : List (ℕ × List ℕ)
    rest = filter (λ placed. not (is_fit (Some holds) placed)) (map (numbered_at file start) places)

    by_fit : (b : Bool) → length (map (λ (placed : ℕ × List ℕ). placed.1) rest) + count_by (is_fit_at file holds start) places ≡ length places
        → length (map (λ (placed : ℕ × List ℕ). placed.1) (cond (not b) (numbered_at file start place ∷ rest) rest))
        + (one b + count_by (is_fit_at file holds start) places)
        ≡ suc (length places)
    by_fit true is = omega (arith, is)
    by_fit false is = omega (arith, is)

-- all are left where no database takes them
pub loose_all : (file : File) (places : List KeptValue) → length (loose_in None (map (numbered_at file 0) places)) ≡ length places
loose_all file [] = refl
loose_all file (place ∷ places) = ap (λ n. suc n) (loose_all file places)

-- as many fit as are given
pub fit_counted : (file : File) (holds : Holds) (start : ℕ) (places : List KeptValue)
    → count_by (is_fit_at file holds start) places ≡ length (filter (fits_in holds) (map (numbered_at file start) places))
fit_counted file holds start places =
    sym (sum_map (λ placed. one (fits_in holds placed)) (numbered_at file start) places)
    ∙ sym (length-filter (fits_in holds) (map (numbered_at file start) places))

-- those of a page that a database takes
pub fit_is : (file : File) (holds : Holds) (p start n : ℕ) → start_on file p ≡ Some start → n ≡ count_by (is_fit_at file holds start) (untaken_on file p)
    → n ≡ length (fit_on file holds p)
fit_is file holds p start n is counted =
    counted
    ∙ (fit_counted file holds start (untaken_on file p)
    ∙ ap (λ s. length (filter (fits_in holds) (fit_left (numbered_from file p s)))) (sym is))

-- The lengths of values.

pub inline_len : (file : File) (place : KeptValue) (bytes : List ℕ) → (item_of file place.page place.index).content ≡ Inline bytes
    → length bytes ≡ length (value_at file place)
unfolding value_of
inline_len file place bytes is = ap (λ content. length (value_of file content)) (sym is)

pub chain_len : (file : File) (place : KeptValue) (head total : ℕ) → (item_of file place.page place.index).content ≡ Chain head total
    → IsKeptValue file place → total ≡ length (value_at file place)
unfolding value_of is_whole
chain_len file place head total is known =
    let whole : is_whole file head total ≡ true = ap (is_valued file) (sym is) ∙ known.valued in
    sym (eqb-true (length (joined (pieces_of file head))) total
    (and_parts (is_row file is_overflow head) (length (joined (pieces_of file head)) == total) whole).1)
    ∙ ap (λ content. length (value_of file content)) (sym is)

-- the data in a data item
pub here_counted : (file : File) (kept : KeptPair) → kept.place ≡ Here
    → length (data_here file (item_of file kept.page (2 * kept.index + 1)).content) ≡ length (given file kept)
unfolding given
here_counted file kept is =
    let content : Content = (item_of file kept.page (2 * kept.index + 1)).content in
    let key : List ℕ = value_of file (item_of file kept.page (2 * kept.index)).content in
    sym (length-map {B = List ℕ × List ℕ} (data_at file content kept.place) (λ value. (key, value)) ∙ ap (λ place. length (data_at file content place)) is)

-- the data of a set off the page
pub set_counted : (file : File) (kept : KeptPair) (leaf : ℕ) (places : List KeptValue) → kept.place ≡ OnLeaves leaf
    → places ≡ flat_map (values_on file) (chain file leaf) → length places ≡ length (given file kept)
unfolding given
set_counted file kept leaf places is are =
    let content : Content = (item_of file kept.page (2 * kept.index + 1)).content in
    let key : List ℕ = value_of file (item_of file kept.page (2 * kept.index)).content in
    sym (length-map {B = List ℕ × List ℕ} (data_at file content kept.place) (λ value. (key, value))
    ∙ (ap (λ place. length (data_at file content place)) is
    ∙ (ap (λ values. length values) (sym (set_values file leaf places are))
    ∙ length-map places (value_at file))))
