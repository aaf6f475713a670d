-- What is known of each kept place.
use Rattle.std.proofs.Common.{◌≡◌, ℕ, ◌+◌, ◌*◌, ◌/◌, ◌<◌, Bool, true, false, cond, List, [], ◌∷◌, map, length, arith, refl, sym, ◌∙◌, ap, subst}
use Rattle.std.specs.List.{All, Contains, flat_map, range_with_len}
use Rattle.bdb_text_format.proofs.of_format.ListLemmas.{all_of}
use Rattle.bdb_text_format.proofs.of_format.MemberLemmas.{first_member, in_flat_map, in_range, no_member, of_map, of_range}
use Rattle.bdb_text_format.specs.of_format.Terms.{Chain, Content, DupLeaf, File, Free, Hash, Inline, Internal, Item, Leaf, Meta, NoType, Overflow, Page, Queue}
use Rattle.bdb_text_format.specs.of_format.Terms.{RecnoInternal, RecnoLeaf, Set, Tree, Unknown, Zero, chain, entries_in, page_at}
use Rattle.bdb_rescue.specs.declared.kept.DataPlace.{DataPlace}
use Rattle.bdb_rescue.specs.declared.kept.DataPlace.TheVariants.{Here, Set as OnLeaves}
use Rattle.bdb_rescue.specs.declared.kept.KeptPair.{KeptPair}
use Rattle.bdb_rescue.specs.declared.kept.KeptValue.{KeptValue}
use Rattle.bdb_rescue.specs.Kept.{IsKeptPair, IsKeptValue, IsTable, data_places, is_held, item_of, kept_in, kept_on, kept_pair, kept_pairs, kept_value, loose_values}
use Rattle.bdb_rescue.specs.Kept.{untaken_on, values_in, values_on}
use Rattle.bdb_survey.specs.Items.{is_valued, slot_at, slots_in}
use Rattle.bdb_survey.specs.Salvage.{is_taken, is_whole, paired_items, set_starts}
use Rattle.bdb_rescue.proofs.ListLemmas.{all_none, all_one, all_pieces}
use Rattle.bdb_rescue.specs.Marks.{leaf_in, start_of}
use Rattle.std.proofs.lemmas.List.Elements.{All-contains}
use Rattle.bdb_rescue.proofs.MarkLemmas.{starts_are}
use Rattle.bdb_rescue.proofs.StoredLemmas.{AreOn, place_of}

-- items that are those of a page, and are all of them
record AreAll (file : File) (p : ℕ) (items : List Item) : Type 0 where
  on : AreOn file p items
  long : length (slots_in (page_at file p)) ≡ length items

are_all : (file : File) (p : ℕ) (page : Page) (items : List Item) → page_at file p ≡ page → slots_in page ≡ items → AreAll file p items
are_all file p page items is are = record {
  on = λ j. ap (λ pg. slot_at (slots_in pg) j) is ∙ ap (λ xs. slot_at xs j) are;
  long = ap (λ pg. length (slots_in pg)) is ∙ ap (λ xs. length xs) are;
}

-- Pairs.

-- there's a pair at the place, whose key is whole, and whose data are where they're in the data item
record IsHere (file : File) (kept : KeptPair) : Type 0 where
  there : 2 * kept.index + 1 < length (slots_in (page_at file kept.page))
  valued : is_valued file (item_of file kept.page (2 * kept.index)).content ≡ true
  held : kept.place ≡ Here → is_held file (item_of file kept.page (2 * kept.index + 1)).content ≡ true

held_by : (file : File) (content : Content) (place : DataPlace) → Contains (data_places file content) place → is_held file content ≡ true
held_by file (Inline bytes) place inside = refl
held_by file (Set blocks) place inside = refl
held_by file (Chain head total) place inside = by_whole (is_whole file head total) inside
  where
    by_whole : (b : Bool) → Contains (cond b (Here ∷ []) []) place → b ≡ true
    by_whole true inside = refl
    by_whole false inside = absurd (no_member [] place refl inside)
held_by file (Tree root) place inside = refl
held_by file Unknown place inside = absurd (no_member [] place refl inside)

pair_known : (file : File) (p i : ℕ) (items : List Item) → AreAll file p items → i < length items / 2 → All (IsHere file) (kept_pair file p items i)
pair_known file p i items all inside = by_key (is_valued file (slot_at items (2 * i)).content) refl
  where
    known : is_valued file (slot_at items (2 * i)).content ≡ true → (place : DataPlace) → Contains (data_places file (slot_at items (2 * i + 1)).content) place
        → IsHere file (place_of p i (slot_at items (2 * i + 1)) place)
    known valued place there = record {
      there = omega (arith, inside, all.long);
      valued = ap (λ (item : Item). is_valued file item.content) (all.on (2 * i)) ∙ valued;
      held = λ here. ap (λ (item : Item). is_held file item.content) (all.on (2 * i + 1)) ∙ held_by file (slot_at items (2 * i + 1)).content place there;
    }

    by_key : (b : Bool) → is_valued file (slot_at items (2 * i)).content ≡ b
        → All (IsHere file) (cond b (map (place_of p i (slot_at items (2 * i + 1))) (data_places file (slot_at items (2 * i + 1)).content)) [])
    by_key true valued =
        all_of (IsHere file) (map (place_of p i (slot_at items (2 * i + 1))) (data_places file (slot_at items (2 * i + 1)).content))
        (λ kept member.
        let from : (place : DataPlace) × Contains (data_places file (slot_at items (2 * i + 1)).content) place
        × (place_of p i (slot_at items (2 * i + 1)) place ≡ kept) = of_map (place_of p i (slot_at items (2 * i + 1)))
        (data_places file (slot_at items (2 * i + 1)).content) kept member in
        subst (IsHere file) from.2 (known valued from.0 from.1))
    by_key false valued = all_none (IsHere file)

pairs_known : (file : File) (p : ℕ) (items : List Item) → AreAll file p items → All (IsHere file) (kept_in file p items)
pairs_known file p items all =
    all_pieces (IsHere file) (kept_pair file p items) (range_with_len 0 (length items / 2))
    (λ i inside. pair_known file p i items all (omega (arith, (of_range 0 (length items / 2) i inside).1)))

page_pairs : (file : File) (p : ℕ) (page : Page) → page_at file p ≡ page → All (IsHere file) (kept_in file p (paired_items page))
page_pairs file p Zero is = all_none (IsHere file)
page_pairs file p (Free header) is = all_none (IsHere file)
page_pairs file p (Meta fields) is = all_none (IsHere file)
page_pairs file p (Hash page) is = pairs_known file p page.items (are_all file p (Hash page) page.items is refl)
page_pairs file p (Internal page) is = all_none (IsHere file)
page_pairs file p (RecnoInternal page) is = all_none (IsHere file)
page_pairs file p (Leaf page) is = pairs_known file p page.items (are_all file p (Leaf page) page.items is refl)
page_pairs file p (RecnoLeaf page) is = all_none (IsHere file)
page_pairs file p (DupLeaf page) is = all_none (IsHere file)
page_pairs file p (Overflow header piece) is = all_none (IsHere file)
page_pairs file p (Queue number records) is = all_none (IsHere file)
page_pairs file p NoType is = all_none (IsHere file)

all_here : (file : File) → All (IsHere file) (kept_pairs file)
unfolding kept_pairs
all_here file = all_pieces (IsHere file) (kept_on file) (range_with_len 0 file.count) (λ p inside. page_pairs file p (page_at file p) refl)

-- the set of a pair begins where the pair says
starts_here : (file : File) (kept : KeptPair) (leaf : ℕ) → Contains (kept_pairs file) kept → kept.place ≡ OnLeaves leaf → Contains (set_starts file) leaf
starts_here file kept leaf inside is =
    subst (λ xs. Contains xs leaf) (starts_are file)
    (in_flat_map start_of (kept_pairs file) kept leaf inside (subst (λ place. Contains (leaf_in place) leaf) (sym is) (first_member leaf [])))

pub all_pairs : (file : File) → All (IsKeptPair file) (kept_pairs file)
all_pairs file =
    all_of (IsKeptPair file) (kept_pairs file)
    (λ kept inside.
    let here : IsHere file kept = All-contains (IsHere file) (kept_pairs file) kept (all_here file) inside in
    record {
      there = here.there;
      valued = here.valued;
      held = here.held;
      starts = λ leaf is. starts_here file kept leaf inside is;
    })

pub pairs_on : (file : File) (p : ℕ) (places : List KeptPair) → places ≡ kept_on file p → p < file.count → All (IsKeptPair file) places
unfolding kept_pairs
pairs_on file p places are there =
    subst (All (IsKeptPair file)) (sym are)
    (all_of (IsKeptPair file) (kept_on file p)
    (λ kept inside.
    All-contains (IsKeptPair file) (kept_pairs file) kept (all_pairs file)
    (in_flat_map (kept_on file) (range_with_len 0 file.count) p kept (in_range 0 file.count p (omega arith) (omega (arith, there))) inside)))

-- all pairs, by pages
pub pairs_table : (file : File) (bounds : List ℕ) (pairs : List KeptPair) → IsTable (kept_on file) file.count bounds pairs → pairs ≡ kept_pairs file
unfolding kept_pairs
pairs_table file bounds pairs table = table.all_are

-- Values.

value_known : (file : File) (p i : ℕ) (items : List Item) → AreAll file p items → i < length items → All (IsKeptValue file) (kept_value file p items i)
value_known file p i items all inside = by_item (slot_at items i).deleted (is_valued file (slot_at items i).content) refl
  where
    by_item : (deleted valued : Bool) → is_valued file (slot_at items i).content ≡ valued
        → All (IsKeptValue file) (cond deleted [] (cond valued (record { page = p; index = i } ∷ []) []))
    by_item true valued is = all_none (IsKeptValue file)
    by_item false true is =
        all_one (IsKeptValue file) (record { page = p; index = i }) (record
        { there = omega (arith, inside, all.long); valued = ap (λ (item : Item). is_valued file item.content) (all.on i) ∙ is })
    by_item false false is = all_none (IsKeptValue file)

values_known : (file : File) (p : ℕ) (items : List Item) → AreAll file p items → All (IsKeptValue file) (values_in file p items)
values_known file p items all =
    all_pieces (IsKeptValue file) (kept_value file p items) (range_with_len 0 (length items))
    (λ i inside. value_known file p i items all (omega (arith, (of_range 0 (length items) i inside).1)))

page_values : (file : File) (p : ℕ) (page : Page) → page_at file p ≡ page → All (IsKeptValue file) (values_in file p (entries_in page))
page_values file p Zero is = all_none (IsKeptValue file)
page_values file p (Free header) is = all_none (IsKeptValue file)
page_values file p (Meta fields) is = all_none (IsKeptValue file)
page_values file p (Hash page) is = all_none (IsKeptValue file)
page_values file p (Internal page) is = all_none (IsKeptValue file)
page_values file p (RecnoInternal page) is = all_none (IsKeptValue file)
page_values file p (Leaf page) is = all_none (IsKeptValue file)
page_values file p (RecnoLeaf page) is = values_known file p page.items (are_all file p (RecnoLeaf page) page.items is refl)
page_values file p (DupLeaf page) is = values_known file p page.items (are_all file p (DupLeaf page) page.items is refl)
page_values file p (Overflow header piece) is = all_none (IsKeptValue file)
page_values file p (Queue number records) is = all_none (IsKeptValue file)
page_values file p NoType is = all_none (IsKeptValue file)

pub all_on : (file : File) (p : ℕ) → All (IsKeptValue file) (values_on file p)
unfolding values_on
all_on file p = page_values file p (page_at file p) refl

pub all_in_set : (file : File) (leaf : ℕ) (places : List KeptValue) → places ≡ flat_map (values_on file) (chain file leaf) → All (IsKeptValue file) places
all_in_set file leaf places are =
    subst (All (IsKeptValue file)) (sym are) (all_pieces (IsKeptValue file) (values_on file) (chain file leaf) (λ p inside. all_on file p))

untaken : (file : File) (p : ℕ) (taken : Bool) → All (IsKeptValue file) (cond taken [] (values_on file p))
untaken file p true = all_none (IsKeptValue file)
untaken file p false = all_on file p

pub all_loose : (file : File) (places : List KeptValue) → places ≡ loose_values file → All (IsKeptValue file) places
unfolding loose_values
all_loose file places are =
    subst (All (IsKeptValue file)) (sym are)
    (all_pieces (IsKeptValue file) (untaken_on file) (range_with_len 0 file.count) (λ p inside. untaken file p (is_taken file p)))

pub untaken_known : (file : File) (p : ℕ) (places : List KeptValue) → places ≡ untaken_on file p → All (IsKeptValue file) places
untaken_known file p places are = subst (All (IsKeptValue file)) (sym are) (untaken file p (is_taken file p))

-- all loose ones, by pages
pub loose_table : (file : File) (bounds : List ℕ) (values : List KeptValue) → IsTable (untaken_on file) file.count bounds values → values ≡ loose_values file
unfolding loose_values
loose_table file bounds values table = table.all_are
