-- The pairs of leaves are runs, one for each unit that was put on them.
use Rattle.std.proofs.Common.{arith, ◌≡◌, ℕ, not, List, [], ◌∷◌, ◌++◌, map, get_or, refl, sym, ◌∙◌, ap, All, flat_map}
use Rattle.bdb_mkleaves.proofs.Common.{append-nil, map-append, map-map, flat_map-append, All-append, All-cons, All-head, All-map, All-nil, All-tail, Chain, Content, File, Inline, Set, StoredPair}
use Rattle.bdb_mkleaves.proofs.Common.{Tree, Unknown, data_of, pairs_in, pairs_of, value_of, Entry, own_entry, pair_in, pairs_from, shared_entry, group_unit, HoldsUnits, IsDatum, IsOneValue}
use Rattle.bdb_mkleaves.proofs.Common.{LeafUnits, Placed, PlacedEntry, PlacedPairs, PlacedTree, StandsPlaced, ValueItem, entries_of, further_entries, pairs_on, tree_item, unit_of, units_in, Pairs}
use Rattle.bdb_mkleaves.proofs.UnitLemmas.{Group, HasKey, IsRun, Shares, all_of_group, data_in}

-- a unit and its page
abbrev pub Located : Type 0
Located = ℕ × Placed

abbrev pub located_on : LeafUnits → List Located
located_on leaf = map (λ unit. (leaf.page, unit)) leaf.units

abbrev pub located_in : List LeafUnits → List Located
located_in placed = flat_map located_on placed

-- what holds of the units of each leaf holds of all
pub all_located : (P : Placed → Type 0) (placed : List LeafUnits) → All (λ (leaf : LeafUnits). All P leaf.units) placed
    → All (λ (at : Located). P at.1) (located_in placed)
all_located P [] all = All-nil (λ (at : Located). P at.1)
all_located P (leaf ∷ placed) all =
    All-append (λ (at : Located). P at.1) (located_on leaf) (located_in placed)
    (All-map (λ (at : Located). P at.1) (λ unit. (leaf.page, unit)) leaf.units (All-head (λ (one : LeafUnits). All P one.units) leaf placed all))
    (all_located P placed (All-tail (λ (one : LeafUnits). All P one.units) leaf placed all))

-- it stands on a leaf of pairs
abbrev pub Stands : File → Located → Type 0
Stands g at = StandsPlaced Pairs g at.1

-- the pairs of a unit; a record has none, and stands on no leaf of pairs
abbrev pub further_pair : File → ℕ → ValueItem → ValueItem → StoredPair
further_pair g p key datum = pair_in g p (shared_entry key.item) (own_entry datum.item)

abbrev pub run_of : File → Located → Group
run_of g (p, PlacedEntry entry) = (pair_in g p (own_entry entry.item) (own_entry entry.item), [])
run_of g (p, PlacedPairs key first more) = (pair_in g p (own_entry key.item) (own_entry first.item), map (further_pair g p key) more)
run_of g (p, PlacedTree key root values) = (pair_in g p (own_entry key.item) (own_entry (tree_item root)), [])

abbrev pub runs_on : File → List LeafUnits → List Group
runs_on g placed = map (run_of g) (located_in placed)

-- The pairs of a leaf are those of its units.

further_pairs : (g : File) (p : ℕ) (key : ValueItem) (more : List ValueItem) (rest : List Entry)
    → pairs_from g p (flat_map (further_entries key) more ++ rest) ≡ map (further_pair g p key) more ++ pairs_from g p rest
further_pairs g p key [] rest = refl
further_pairs g p key (datum ∷ more) rest = ap (λ pairs. further_pair g p key datum ∷ pairs) (further_pairs g p key more rest)

unit_pairs : (g : File) (p : ℕ) (unit : Placed) (rest : List Entry) → StandsPlaced Pairs g unit
    → pairs_from g p (entries_of unit ++ rest) ≡ all_of_group (run_of g (p, unit)) ++ pairs_from g p rest
unit_pairs g p (PlacedEntry entry) rest stands = absurd stands
unit_pairs g p (PlacedPairs key first more) rest stands =
    ap (λ pairs. pair_in g p (own_entry key.item) (own_entry first.item) ∷ pairs) (further_pairs g p key more rest)
unit_pairs g p (PlacedTree key root values) rest stands = refl

leaf_pairs : (g : File) (p : ℕ) (units : List Placed) → All (StandsPlaced Pairs g) units
    → pairs_from g p (flat_map entries_of units)
    ≡ flat_map all_of_group (map (run_of g) (located_on (record { page = p; units = units })))
leaf_pairs g p [] all = refl
leaf_pairs g p (unit ∷ units) all = grind (arith, unit_pairs, All-head, All-tail, leaf_pairs g p units (All-tail (StandsPlaced Pairs g) unit units all))

pub pairs_are_runs : (g : File) (leaf : LeafUnits) → HoldsUnits Pairs g leaf
    → pairs_of g leaf.page ≡ flat_map all_of_group (map (run_of g) (located_on leaf))
unfolding pairs_of
pairs_are_runs g leaf holds = ap (pairs_in g leaf.page) holds.is_leaf.is ∙ (holds.is_leaf.holds ∙ leaf_pairs g leaf.page leaf.units holds.stand)

pub all_pairs_are_runs : (g : File) (placed : List LeafUnits) → All (HoldsUnits Pairs g) placed
    → pairs_on g placed ≡ flat_map all_of_group (runs_on g placed)
all_pairs_are_runs g [] all = refl
all_pairs_are_runs g (leaf ∷ placed) all =
    rw (
      pairs_are_runs g leaf (All-head (HoldsUnits Pairs g) leaf placed all),
      all_pairs_are_runs g placed (All-tail (HoldsUnits Pairs g) leaf placed all),
      map-append (run_of g) (located_on leaf) (located_in placed),
    ) (sym (flat_map-append all_of_group (map (run_of g) (located_on leaf)) (runs_on g placed)))

-- Each is a run, with the key and the data of its unit.

one_datum : (g : File) (content : Content) (value : List ℕ) → IsOneValue content → value_of g content ≡ value → data_of g content ≡ value ∷ []
unfolding data_of value_of
one_datum g (Inline bytes) value one is = ap (λ v. v ∷ []) is
one_datum g (Chain head total) value one is = ap (λ v. v ∷ []) is
one_datum g (Set blocks) value one is = absurd one
one_datum g (Tree root) value one is = absurd one
one_datum g Unknown value one is = absurd one

further_data : (g : File) (p : ℕ) (key : ValueItem) (more : List ValueItem) → All (IsDatum g) more
    → data_in g (map (further_pair g p key) more) ≡ map (λ (datum : ValueItem). datum.value) more
further_data g p key [] all = refl
further_data g p key (datum ∷ more) all = grind (arith, All-head, one_datum, All-tail, further_data g p key more (All-tail (IsDatum g) datum more all))

pub unit_of_run : (g : File) (at : Located) → Stands g at → group_unit g (run_of g at) ≡ unit_of at.1
unit_of_run g (p, PlacedEntry entry) stands = absurd stands
unit_of_run g (p, PlacedPairs key first more) stands =
    rw (stands.0.value, one_datum g first.item.content first.value stands.1.one stands.1.value, further_data g p key more stands.2) refl
unit_of_run g (p, PlacedTree key root values) stands = rw (stands.0.value, append-nil (data_of g (Tree root)), stands.1) refl

pub units_of_located : (g : File) (all : List Located) → All (Stands g) all
    → map (group_unit g) (map (run_of g) all) ≡ map (λ (at : Located). unit_of at.1) all
units_of_located g [] stand = refl
units_of_located g (at ∷ all) stand = rw (unit_of_run g at (All-head (Stands g) at all stand), units_of_located g all (All-tail (Stands g) at all stand)) refl

pub units_located : (placed : List LeafUnits) → map (λ (at : Located). unit_of at.1) (located_in placed) ≡ units_in placed
units_located [] = refl
units_located (leaf ∷ placed) = grind (arith, map-append, map-map, units_located placed)

pub is_run : (g : File) (at : Located) → Stands g at → IsRun (run_of g at)
is_run g (p, PlacedEntry entry) stands = absurd stands
is_run g (p, PlacedPairs key first more) stands =
    let Own : StoredPair → Type 0 = HasKey (value_of g key.item.content) in
    record {
      own = refl;
      share = All-map Shares (further_pair g p key) more (λ k d low. refl);
      each = All-cons Own _ (map (further_pair g p key) more) (record { live = ap not stands.1.live; key_is = refl })
          (All-map Own (further_pair g p key) more (λ k d low. record { live = ap not (stands.2 k d low).live; key_is = refl }));
    }
is_run g (p, PlacedTree key root values) stands = grind (arith, HasKey, All-nil, Shares, All-cons)

pub all_stand : (g : File) (placed : List LeafUnits) → All (HoldsUnits Pairs g) placed → All (Stands g) (located_in placed)
all_stand g placed all = all_located (StandsPlaced Pairs g) placed (λ k d low. (all k d low).stand)

pub all_are_runs : (g : File) (all : List Located) → All (Stands g) all → All IsRun (map (run_of g) all)
all_are_runs g all stand = All-map IsRun (run_of g) all (λ k d low. is_run g (get_or all k d) (stand k d low))
