-- The values that are kept give the loose records, and the data of sets.
use Rattle.std.proofs.Common.{◌≡◌, ℕ, Bool, true, false, cond, List, [], ◌∷◌, map, length, arith, refl, sym, ◌∙◌, ap}
use Rattle.std.specs.List.{flat_map, range_with_len}
use Rattle.std.proofs.lemmas.List.{ext_get_or}
use Rattle.std.proofs.lemmas.List.FromFn.{get_or-map-range_with_len, length-map-range_with_len}
use Rattle.std.proofs.lemmas.List.Folds.{flat_map-map}
use Rattle.bdb_text_format.proofs.of_format.ListLemmas.{map_joined}
use Rattle.bdb_text_format.specs.of_format.Terms.{DupLeaf, File, Free, Hash, Internal, Item, Leaf, Meta, NoType, Overflow, Page, Queue, RecnoInternal}
use Rattle.bdb_text_format.specs.of_format.Terms.{RecnoLeaf, Zero, chain, entries_in, no_item, page_at, value_of}
use Rattle.bdb_rescue.specs.declared.kept.KeptValue.{KeptValue}
use Rattle.bdb_survey.specs.Items.{is_valued, slot_at, slots_in}
use Rattle.bdb_rescue.specs.Kept.{kept_value, loose_values, untaken_on, value_at, values_in, values_on}
use Rattle.bdb_survey.specs.Salvage.{is_taken, live_value, live_whole, loose, loose_on}
use Rattle.bdb_rescue.proofs.ListLemmas.{flat_map_alike}
use Rattle.bdb_rescue.proofs.StoredLemmas.{AreOn, values_are}

-- the items of a list by their places
pub all_slots : (items : List Item) → map (slot_at items) (range_with_len 0 (length items)) ≡ items
all_slots items =
    ext_get_or no_item (map (slot_at items) (range_with_len 0 (length items))) items (length-map-range_with_len (slot_at items) 0 (length items))
    (λ i inside. get_or-map-range_with_len (slot_at items) 0 (length items) i i no_item
    (omega (arith, inside, length-map-range_with_len (slot_at items) 0 (length items))) (omega arith))

value_gives : (file : File) (p i : ℕ) (items : List Item) → AreOn file p items → map (value_at file) (kept_value file p items i)
    ≡ live_value file (slot_at items i)
value_gives file p i items on =
    let item : Item = slot_at items i in
    by_deleted item.deleted (is_valued file item.content)
    ∙ ap (λ values. cond item.deleted [] values) (sym (values_are file item.content))
  where
    at : value_at file (record { page = p; index = i }) ≡ value_of file (slot_at items i).content
    at = ap (λ (item : Item). value_of file item.content) (on i)

    by_deleted : (deleted valued : Bool) → map (value_at file) (cond deleted [] (cond valued (record { page = p; index = i } ∷ []) []))
        ≡ cond deleted [] (cond valued (value_of file (slot_at items i).content ∷ []) [])
    by_deleted true valued = refl
    by_deleted false true = ap (λ value. value ∷ []) at
    by_deleted false false = refl

values_give : (file : File) (p : ℕ) (items : List Item) → AreOn file p items → map (value_at file) (values_in file p items) ≡ flat_map (live_value file) items
values_give file p items on =
    let indexes : List ℕ = range_with_len 0 (length items) in
    map_joined (value_at file) (kept_value file p items) indexes
    ∙ (flat_map_alike (λ i. map (value_at file) (kept_value file p items i)) (λ i. live_value file (slot_at items i)) indexes
    (λ i. value_gives file p i items on)
    ∙ (sym (flat_map-map (live_value file) (slot_at items) indexes)
    ∙ ap (flat_map (live_value file)) (all_slots items)))

page_values : (file : File) (p : ℕ) (page : Page) → page_at file p ≡ page → map (value_at file) (values_in file p (entries_in page))
    ≡ flat_map (live_value file) (entries_in page)
page_values file p Zero is = refl
page_values file p (Free header) is = refl
page_values file p (Meta fields) is = refl
page_values file p (Hash page) is = refl
page_values file p (Internal page) is = refl
page_values file p (RecnoInternal page) is = refl
page_values file p (Leaf page) is = refl
page_values file p (RecnoLeaf page) is = values_give file p page.items (λ j. ap (λ pg. slot_at (slots_in pg) j) is)
page_values file p (DupLeaf page) is = values_give file p page.items (λ j. ap (λ pg. slot_at (slots_in pg) j) is)
page_values file p (Overflow header piece) is = refl
page_values file p (Queue number records) is = refl
page_values file p NoType is = refl

-- the values of a leaf are those that are kept of it
pub leaf_values : (file : File) (p : ℕ) → map (value_at file) (values_on file p) ≡ live_whole file p
unfolding values_on live_whole
leaf_values file p = page_values file p (page_at file p) refl

-- those of the leaves of a set
pub set_values : (file : File) (leaf : ℕ) (places : List KeptValue) → places ≡ flat_map (values_on file) (chain file leaf)
    → map (value_at file) places ≡ flat_map (live_whole file) (chain file leaf)
set_values file leaf places are =
    ap (map (value_at file)) are
    ∙ (map_joined (value_at file) (values_on file) (chain file leaf)
    ∙ flat_map_alike (λ p. map (value_at file) (values_on file p)) (live_whole file) (chain file leaf) (leaf_values file))

-- Loose ones.

on_page : (file : File) (p : ℕ) → map (value_at file) (untaken_on file p) ≡ loose_on file p
on_page file p = by_taken (is_taken file p)
  where
    by_taken : (taken : Bool) → map (value_at file) (cond taken [] (values_on file p)) ≡ cond taken [] (live_whole file p)
    by_taken true = refl
    by_taken false = leaf_values file p

pub loose_is : (file : File) (places : List KeptValue) → places ≡ loose_values file → map (value_at file) places ≡ loose file
unfolding loose_values loose
loose_is file places are =
    let pages : List ℕ = range_with_len 0 file.count in
    ap (map (value_at file)) are
    ∙ (map_joined (value_at file) (untaken_on file) pages
    ∙ flat_map_alike (λ p. map (value_at file) (untaken_on file p)) (loose_on file) pages (on_page file))
