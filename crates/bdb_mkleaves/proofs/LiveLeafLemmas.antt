-- No item of a leaf is marked deleted where no unit is.
use Rattle.std.proofs.Common.{arith, ◌≡◌, ℕ, false, List, [], ◌∷◌, map, refl, ◌∙◌, ap}
use Rattle.bdb_mkleaves.proofs.Common.{All, flat_map, list_any, All-append, All-cons, All-head, All-map, All-nil, All-tail, list_any_none, File, Item, Listed, page_at, AreLaid, IsLiveUnit}
use Rattle.bdb_mkleaves.proofs.Common.{LaidTreesAreLive, has_deleted, Entry, IsLeafIn, leaf_of, own_entry, IsDatum, LeafUnits, Placed, PlacedEntry, PlacedPairs, PlacedTree, StandsPlaced, ValueItem}
use Rattle.bdb_mkleaves.proofs.Common.{entries_of, further_entries, unit_of, units_in, LeafType, Pairs, Records, SortedData, all_left, all_right}

abbrev IsLiveEntry : Entry → Type 0
IsLiveEntry entry = entry.item.deleted ≡ false

-- the entries of a unit

further_live : (g : File) (key : ValueItem) (more : List ValueItem) → key.item.deleted ≡ false → All (IsDatum g) more
    → All IsLiveEntry (flat_map (further_entries key) more)
further_live g key [] live each = All-nil IsLiveEntry
further_live g key (datum ∷ more) live each = grind (arith, All-cons, All-head, All-tail, further_live g key more live (All-tail (IsDatum g) datum more each))

unit_live : (type : LeafType) (g : File) (unit : Placed) → StandsPlaced type g unit → IsLiveUnit (unit_of unit) → All IsLiveEntry (entries_of unit)
unit_live type g (PlacedEntry entry) stands live = All-cons IsLiveEntry (own_entry entry.item) [] live (All-nil IsLiveEntry)
unit_live Pairs g (PlacedPairs key first more) stands live =
    All-cons IsLiveEntry (own_entry key.item) (own_entry first.item ∷ flat_map (further_entries key) more) stands.0.live
    (All-cons IsLiveEntry (own_entry first.item) (flat_map (further_entries key) more) stands.1.live
    (further_live g key more stands.0.live stands.2))
unit_live Records g (PlacedPairs key first more) stands live = absurd stands
unit_live SortedData g (PlacedPairs key first more) stands live = absurd stands
unit_live Pairs g (PlacedTree key root values) stands live = grind (arith, All-cons, All-nil)
unit_live Records g (PlacedTree key root values) stands live = absurd stands
unit_live SortedData g (PlacedTree key root values) stands live = absurd stands

-- those of all units of a leaf

units_live : (type : LeafType) (g : File) (units : List Placed) → All (StandsPlaced type g) units → All IsLiveUnit (map unit_of units)
    → All IsLiveEntry (flat_map entries_of units)
units_live type g [] stand live = All-nil IsLiveEntry
units_live type g (unit ∷ units) stand live =
    All-append IsLiveEntry (entries_of unit) (flat_map entries_of units)
    (unit_live type g unit (All-head (StandsPlaced type g) unit units stand) (All-head IsLiveUnit (unit_of unit) (map unit_of units) live))
    (units_live type g units (All-tail (StandsPlaced type g) unit units stand) (All-tail IsLiveUnit (unit_of unit) (map unit_of units) live))

deleted_in : (type : LeafType) (page : Listed Item) → has_deleted (leaf_of type page) ≡ list_any (λ (item : Item). item.deleted) page.items
deleted_in Pairs page = refl
deleted_in Records page = refl
deleted_in SortedData page = refl

leaf_live : (type : LeafType) (g : File) (p previous next : ℕ) (units : List Placed)
    → IsLeafIn type g p previous next (flat_map entries_of units) → All (StandsPlaced type g) units → All IsLiveUnit (map unit_of units)
    → has_deleted (page_at g p) ≡ false
leaf_live type g p previous next units leaf stand live =
    ap has_deleted leaf.is
    ∙ (deleted_in type leaf.page
    ∙ (ap (list_any (λ (item : Item). item.deleted)) leaf.items
    ∙ list_any_none (λ (item : Item). item.deleted) (map (λ (entry : Entry). entry.item) (flat_map entries_of units))
    (All-map (λ (item : Item). item.deleted ≡ false) (λ (entry : Entry). entry.item) (flat_map entries_of units)
    (units_live type g units stand live))))

leaves_live : (type : LeafType) (g : File) (before : ℕ) (placed : List LeafUnits) → AreLaid type g before placed → All IsLiveUnit (units_in placed)
    → All (λ (leaf : LeafUnits). has_deleted (page_at g leaf.page) ≡ false) placed
leaves_live type g before [] laid live = All-nil (λ (leaf : LeafUnits). has_deleted (page_at g leaf.page) ≡ false)
leaves_live type g before (leaf ∷ placed) (here, stand, rest) live =
    All-cons (λ (one : LeafUnits). has_deleted (page_at g one.page) ≡ false) leaf placed
    (leaf_live type g leaf.page before _ leaf.units here stand (all_left IsLiveUnit (map unit_of leaf.units) (units_in placed) live))
    (leaves_live type g leaf.page placed rest (all_right IsLiveUnit (map unit_of leaf.units) (units_in placed) live))

pub laid_trees_are_live : LaidTreesAreLive
laid_trees_are_live type g rest placed nodes above root laid live = leaves_live type g 0 placed laid.leaves live
