-- What a set holds that is laid as a tree.
use Rattle.std.proofs.Common.{arith, ◌≡◌, ℕ, Some, Bool, true, false, not, cond, List, [], ◌∷◌, ◌++◌, map, refl, sym, ◌∙◌, ap, All, filter, flat_map}
use Rattle.bdb_mkleaves.proofs.Common.{flat_map-append, All-head, All-tail, All-weaker, DuplicateRoot, File, Item, data_of, entries_in, has_type, live_values, page_at, value_of, wrong_set_types}
use Rattle.bdb_mkleaves.proofs.Common.{leaf_types, inner_number, Entry, IsLeafIn, type_number, LaidSetsHoldData, entries_on, has_sorted_data, inner_of, live_value, HoldsUnits, LeafUnits, Placed}
use Rattle.bdb_mkleaves.proofs.Common.{PlacedEntry, PlacedPairs, PlacedTree, StandsPlaced, entries_of, pages_of, unit_of, units_in, LeafType, Pairs, Records, SortedData}
use Rattle.bdb_mkleaves.proofs.LaidLemmas.{hold_units, laid_trees_are_linked, laid_trees_have_leaves, root_type_is}

-- Its leaves.

pub entries_are : (type : LeafType) (g : File) (p previous next : ℕ) (entries : List Entry) → (type ≡ Pairs → ⊥)
    → IsLeafIn type g p previous next entries → entries_in (page_at g p) ≡ map (λ (entry : Entry). entry.item) entries
entries_are Pairs g p previous next entries unpaired leaf = absurd (unpaired refl)
entries_are Records g p previous next entries unpaired leaf = ap entries_in leaf.is ∙ leaf.holds
entries_are SortedData g p previous next entries unpaired leaf = ap entries_in leaf.is ∙ leaf.holds

-- a datum stands on its leaf as a record does
as_record : (type : LeafType) (g : File) (unit : Placed) → (type ≡ Pairs → ⊥) → StandsPlaced type g unit → StandsPlaced Records g unit
as_record Pairs g unit unpaired stands = absurd (unpaired refl)
as_record Records g unit unpaired stands = stands
as_record SortedData g (PlacedEntry entry) unpaired stands = stands
as_record SortedData g (PlacedPairs key first more) unpaired stands = absurd stands
as_record SortedData g (PlacedTree key root values) unpaired stands = absurd stands

abbrev values_of : File → List Item → List (List ℕ)
values_of g items = map (λ (item : Item). value_of g item.content) (filter (λ (item : Item). not item.deleted) items)

one_value : (g : File) (item : Item) (value : List ℕ) (items : List Item) (values : List (List ℕ)) (deleted : Bool) → value_of g item.content ≡ value
    → map (λ (one : Item). value_of g one.content) items ≡ values
    → map (λ (one : Item). value_of g one.content) (cond (not deleted) (item ∷ items) items) ≡ cond deleted [] (value ∷ []) ++ values
one_value g item value items values true is rest = rest
one_value g item value items values false is rest = rw (is, rest) refl

values_read : (g : File) (units : List Placed) → All (StandsPlaced Records g) units
    → values_of g (map (λ (entry : Entry). entry.item) (flat_map entries_of units)) ≡ flat_map live_value (map unit_of units)
values_read g [] all = refl
values_read g (PlacedEntry entry ∷ units) all =
    grind (arith, one_value, All-head, All-tail, values_read g units (All-tail (StandsPlaced Records g) (PlacedEntry entry) units all))
values_read g (PlacedPairs key first more ∷ units) all = absurd (All-head (StandsPlaced Records g) (PlacedPairs key first more) units all)
values_read g (PlacedTree key root values ∷ units) all = absurd (All-head (StandsPlaced Records g) (PlacedTree key root values) units all)

all_values : (type : LeafType) (g : File) (placed : List LeafUnits) → (type ≡ Pairs → ⊥) → All (HoldsUnits type g) placed
    → flat_map (λ p. live_values g (page_at g p)) (pages_of placed) ≡ flat_map live_value (units_in placed)
all_values type g [] unpaired all = refl
all_values type g (leaf ∷ placed) unpaired all =
    let holds = All-head (HoldsUnits type g) leaf placed all in
    ap (λ values. values ++ flat_map (λ p. live_values g (page_at g p)) (pages_of placed))
    (ap (values_of g) (entries_are type g leaf.page holds.previous holds.next (entries_on leaf) unpaired holds.is_leaf)
    ∙ values_read g leaf.units
    (All-weaker (StandsPlaced type g) (StandsPlaced Records g) (λ unit. as_record type g unit unpaired) leaf.units holds.stand))
    ∙ (ap (λ values. flat_map live_value (map unit_of leaf.units) ++ values)
    (all_values type g placed unpaired (All-tail (HoldsUnits type g) leaf placed all))
    ∙ sym (flat_map-append live_value (map unit_of leaf.units) (units_in placed)))

-- Its root.

-- what is so of the types of leaves and internal pages of a set
record AreSetTypes (type : LeafType) : Type 0 where
  leaf_fits : has_type (3 ∷ 4 ∷ 6 ∷ 12 ∷ []) (Some (type_number type)) ≡ true
  inner_fits : has_type (3 ∷ 4 ∷ 6 ∷ 12 ∷ []) (Some (inner_number (inner_of type))) ≡ true
  leaf_right : has_type (wrong_set_types (has_sorted_data type)) (Some (type_number type)) ≡ false
  inner_right : has_type (wrong_set_types (has_sorted_data type)) (Some (inner_number (inner_of type))) ≡ false
  bottom : has_type (leaf_types DuplicateRoot) (Some (type_number type)) ≡ true

set_types : (type : LeafType) → (type ≡ Pairs → ⊥) → AreSetTypes type
set_types Pairs unpaired = absurd (unpaired refl)
set_types Records unpaired = record { leaf_fits = refl; inner_fits = refl; leaf_right = refl; inner_right = refl; bottom = refl }
set_types SortedData unpaired = record { leaf_fits = refl; inner_fits = refl; leaf_right = refl; inner_right = refl; bottom = refl }

pub laid_sets_hold_data : LaidSetsHoldData
unfolding data_of
laid_sets_hold_data type g rest placed nodes above root laid unpaired =
    let types = set_types type unpaired in (
      ap (flat_map (λ p. live_values g (page_at g p))) (laid_trees_have_leaves type g rest placed nodes above root laid)
          ∙ all_values type g placed unpaired (hold_units type g 0 placed laid.leaves),
      root_type_is type g rest placed nodes above root laid
          (has_type (wrong_set_types (has_sorted_data type))) false types.leaf_right types.inner_right,
      record {
        type = root_type_is type g rest placed nodes above root laid (has_type (3 ∷ 4 ∷ 6 ∷ 12 ∷ [])) true types.leaf_fits types.inner_fits;
        places = laid_trees_are_linked type g rest placed nodes above root DuplicateRoot laid types.bottom;
      },
    )
