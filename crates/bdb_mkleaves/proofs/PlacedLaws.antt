-- What leaves hold by the units that were put on them.
use Rattle.std.proofs.Common.{arith, ◌≡◌, ℕ, Bool, true, false, not, List, [], ◌∷◌, length, map, get_or, refl, sym, ◌∙◌, ap, subst, eq-eqb, true≢false, ◌==◌, ◌&&◌}
use Rattle.bdb_mkleaves.proofs.Common.{All, enumerate_from, flat_map, list_any, or_from, append-nil, map-append, map-map, All-cons, All-head, All-map, All-nil, All-tail, BtreeMeta, Chain, Content}
use Rattle.bdb_mkleaves.proofs.Common.{File, Inline, Set, StoredPair, Tree, Unknown, ascends, btree_list, entries_in, has_duplicate, has_unsorted, is_duplicate, is_set, is_wrong_record, is_wrong_set}
use Rattle.bdb_mkleaves.proofs.Common.{leaves, page_at, pairs_of, recno_list, tree_entries, tree_pairs, BeginsWith, Follow, Entry, entry_unit, group_unit, key_of, keyed_units, listed_keyed}
use Rattle.bdb_mkleaves.proofs.Common.{listed_record, HasLength, HoldsUnits, IsAllowed, IsOneValue, KeepsRules, LeafUnits, PairsFollow, Placed, PlacedEntry, PlacedPairs, PlacedTree, RecordsKeepLength}
use Rattle.bdb_mkleaves.proofs.Common.{StandsPlaced, UnitsAreListed, UnitsAreRead, UnitsKeepRules, entries_of, has_several, has_wrong_root, pages_of, unit_of, units_in, values_in, Pairs, Records}
use Rattle.bdb_mkleaves.proofs.UnitLemmas.{Group, IsRun, IsSorted, all_in_order, all_of_group, keys_of, list_of_records, list_of_runs, none_at, none_unsorted, runs_follow, units_of_runs}
use Rattle.bdb_mkleaves.proofs.PlacedLemmas.{Located, all_are_runs, all_located, all_pairs_are_runs, all_stand, Stands, further_pair, is_run}
use Rattle.bdb_mkleaves.proofs.PlacedLemmas.{located_in, located_on, pairs_are_runs, run_of, runs_on, unit_of_run, units_located, units_of_located}

-- The items of a leaf of records.

records_read : (g : File) (units : List Placed) → All (StandsPlaced Records g) units
    → map (entry_unit g) (map (λ (entry : Entry). entry.item) (flat_map entries_of units)) ≡ map unit_of units
records_read g [] all = refl
records_read g (PlacedEntry entry ∷ units) all =
    let value = All-head (StandsPlaced Records g) (PlacedEntry entry) units all in
    rw (value, records_read g units (All-tail (StandsPlaced Records g) (PlacedEntry entry) units all)) refl
records_read g (PlacedPairs key first more ∷ units) all = absurd (All-head (StandsPlaced Records g) (PlacedPairs key first more) units all)
records_read g (PlacedTree key root values ∷ units) all = absurd (All-head (StandsPlaced Records g) (PlacedTree key root values) units all)

pub units_are_read : UnitsAreRead
units_are_read g leaf = (
  λ holds.
      let stand = All-map (Stands g) (λ unit. (leaf.page, unit)) leaf.units holds.stand in
      ap (keyed_units g) (pairs_are_runs g leaf holds)
      ∙ (units_of_runs g (map (run_of g) (located_on leaf)) (all_are_runs g (located_on leaf) stand)
      ∙ (units_of_located g (located_on leaf) stand ∙ map-map (λ (at : Located). unit_of at.1) (λ unit. (leaf.page, unit)) leaf.units)),
  λ holds.
      ap (λ page. map (entry_unit g) (entries_in page)) holds.is_leaf.is
      ∙ (ap (map (entry_unit g)) holds.is_leaf.holds ∙ records_read g leaf.units holds.stand),
)

-- Their lists.

all_units : (g : File) (placed : List LeafUnits) → All (HoldsUnits Pairs g) placed → map (group_unit g) (runs_on g placed) ≡ units_in placed
all_units g placed all = units_of_located g (located_in placed) (all_stand g placed all) ∙ units_located placed

all_runs : (g : File) (placed : List LeafUnits) → All (HoldsUnits Pairs g) placed → All IsRun (runs_on g placed)
all_runs g placed all = all_are_runs g (located_in placed) (all_stand g placed all)

all_records : (g : File) (placed : List LeafUnits) → All (HoldsUnits Records g) placed
    → map (entry_unit g) (flat_map (λ p. entries_in (page_at g p)) (pages_of placed)) ≡ units_in placed
all_records g [] all = refl
all_records g (leaf ∷ placed) all =
    let here = (units_are_read g leaf).1 (All-head (HoldsUnits Records g) leaf placed all) in
    map-append (entry_unit g) (entries_in (page_at g leaf.page)) (flat_map (λ p. entries_in (page_at g p)) (pages_of placed))
    ∙ rw (here, all_records g placed (All-tail (HoldsUnits Records g) leaf placed all)) refl

pairs_listed : (g : File) (root : ℕ) (placed : List LeafUnits) → leaves g root ≡ pages_of placed → All (HoldsUnits Pairs g) placed
    → btree_list g root ≡ flat_map listed_keyed (units_in placed)
unfolding btree_list tree_pairs
pairs_listed g root placed are all = grind (arith, all_pairs_are_runs, list_of_runs, runs_on, all_runs, all_units)

records_listed : (g : File) (root : ℕ) (placed : List LeafUnits) → leaves g root ≡ pages_of placed → All (HoldsUnits Records g) placed
    → recno_list g root ≡ flat_map listed_record (enumerate_from 1 (units_in placed))
unfolding recno_list tree_entries
records_listed g root placed are all = grind (arith, list_of_records, all_records)

pub units_are_listed : UnitsAreListed
units_are_listed g meta placed are = grind (arith, pairs_listed, records_listed)

-- Their rules.

no_set : (content : Content) → IsOneValue content → is_set content ≡ false
no_set (Inline bytes) one = refl
no_set (Chain head total) one = refl
no_set (Set blocks) one = absurd one
no_set (Tree root) one = absurd one
no_set Unknown one = absurd one

no_root : (g : File) (sorted : Bool) (content : Content) → IsOneValue content → is_wrong_set g sorted content ≡ false
no_root g sorted (Inline bytes) one = refl
no_root g sorted (Chain head total) one = refl
no_root g sorted (Set blocks) one = refl
no_root g sorted (Tree root) one = absurd one
no_root g sorted Unknown one = refl

abbrev NoDuplicate : StoredPair → Type 0
NoDuplicate pair = is_duplicate pair ≡ false

abbrev HasRightSet : File → Bool → StoredPair → Type 0
HasRightSet g sorted pair = is_wrong_set g sorted pair.data_item ≡ false

-- a pair alone with one datum is no duplicate
single_run : (g : File) (at : Located) → Stands g at → has_several at.1 ≡ false → All NoDuplicate (all_of_group (run_of g at))
single_run g (p, PlacedEntry entry) stands single = absurd stands
single_run g (p, PlacedPairs key first []) stands single = All-cons NoDuplicate _ [] (no_set first.item.content stands.1.one) (All-nil NoDuplicate)
single_run g (p, PlacedPairs key first (next ∷ more)) stands single = absurd (true≢false single)
single_run g (p, PlacedTree key root values) stands single = absurd (true≢false single)

right_run : (g : File) (sorted : Bool) (at : Located) → Stands g at → has_wrong_root g sorted at.1 ≡ false
    → All (HasRightSet g sorted) (all_of_group (run_of g at))
right_run g sorted (p, PlacedEntry entry) stands right = absurd stands
right_run g sorted (p, PlacedPairs key first more) stands right =
    All-cons (HasRightSet g sorted) _ (map (further_pair g p key) more) (no_root g sorted first.item.content stands.1.one)
    (All-map (HasRightSet g sorted) (further_pair g p key) more (λ k d low. no_root g sorted (get_or more k d).item.content (stands.2 k d low).one))
right_run g sorted (p, PlacedTree key root values) stands right = All-cons (HasRightSet g sorted) _ [] right (All-nil (HasRightSet g sorted))

-- what follows from a unit that stands and is allowed holds of the runs of all
runs_allowed : (g : File) (duplicates sorted : Bool) (placed : List LeafUnits) (Q : Group → Type 0) → All (HoldsUnits Pairs g) placed
    → All (λ (leaf : LeafUnits). All (IsAllowed g duplicates sorted) leaf.units) placed
    → ((at : Located) → Stands g at → IsAllowed g duplicates sorted at.1 → Q (run_of g at)) → All Q (runs_on g placed)
runs_allowed g duplicates sorted placed Q all allowed each =
    All-map Q (run_of g) (located_in placed)
    (λ k d low.
    each (get_or (located_in placed) k d) (all_stand g placed all k d low) (all_located (IsAllowed g duplicates sorted) placed allowed k d low))

keys_placed : (g : File) (placed : List LeafUnits) → All (HoldsUnits Pairs g) placed → keys_of (runs_on g placed) ≡ map key_of (units_in placed)
keys_placed g placed all = sym (map-map key_of (group_unit g) (runs_on g placed)) ∙ ap (map key_of) (all_units g placed all)

all_follow : (g : File) (placed : List LeafUnits) → All (HoldsUnits Pairs g) placed → ascends (map key_of (units_in placed)) ≡ true
    → Follow (flat_map all_of_group (runs_on g placed))
all_follow g placed all ascend = runs_follow (runs_on g placed) (all_runs g placed all) (ap ascends (keys_placed g placed all) ∙ ascend)

pub unless : (a b : Bool) → (a ≡ true → b ≡ false) → (a && b) ≡ false
unless true b is = is refl
unless false b is = refl

unless_not : (a b : Bool) → (a ≡ false → b ≡ false) → (not a && b) ≡ false
unless_not true b is = refl
unless_not false b is = is refl

pub units_keep_rules : UnitsKeepRules
units_keep_rules g duplicates sorted placed p all ascend allowed =
    let runs : List Group = runs_on g placed in
    let pairs : List StoredPair = flat_map all_of_group runs in
    subst (λ ps. KeepsRules g duplicates sorted ps p) (sym (all_pairs_are_runs g placed all))
    (record {
      single = unless_not duplicates (has_duplicate pairs p)
          (λ no.
          none_at is_duplicate runs p
          (runs_allowed g duplicates sorted placed (λ run. All NoDuplicate (all_of_group run)) all allowed
          (λ at stands may. single_run g at stands (may.several no))));
      kinds =
          none_at (λ pair. is_wrong_set g sorted pair.data_item) runs p
          (runs_allowed g duplicates sorted placed (λ run. All (HasRightSet g sorted) (all_of_group run)) all allowed
          (λ at stands may. right_run g sorted at stands may.root));
      keys_ascend = all_in_order pairs p (all_follow g placed all ascend);
      data_ascend = unless sorted (has_unsorted g pairs p)
          (λ is.
          none_unsorted g runs p (all_runs g placed all)
          (runs_allowed g duplicates sorted placed (IsSorted g) all allowed
          (λ at stands may. ap (λ unit. ascends (values_in unit)) (unit_of_run g at stands) ∙ may.in_order is)));
    })

pub pairs_follow : PairsFollow
pairs_follow g = (
  λ placed all ascend. subst Follow (sym (all_pairs_are_runs g placed all)) (all_follow g placed all ascend),
  λ node p unit units holds alone key.
      let stands : StandsPlaced Pairs g unit = All-head (StandsPlaced Pairs g) unit units holds.stand in
      subst (BeginsWith g node)
      (sym (ap (flat_map (pairs_of g)) alone ∙ (append-nil (pairs_of g p) ∙ pairs_are_runs g (record { page = p; units = unit ∷ units }) holds)))
      ((is_run g (p, unit) stands).own, ap key_of (unit_of_run g (p, unit) stands) ∙ sym key),
)

right_length : (deleted : Bool) (value : List ℕ) (n : ℕ) → (deleted ≡ false → length value ≡ n) → (not deleted && not (length value == n)) ≡ false
right_length true value n is = refl
right_length false value n is = ap not (eq-eqb (length value) n (is refl))

right_lengths : (g : File) (meta : BtreeMeta) (units : List Placed) → All (StandsPlaced Records g) units → All (HasLength meta.re_len) units
    → list_any (is_wrong_record g meta) (map (λ (entry : Entry). entry.item) (flat_map entries_of units)) ≡ false
right_lengths g meta [] all long = refl
right_lengths g meta (PlacedEntry entry ∷ units) all long =
    or_from (is_wrong_record g meta entry.item) _
    (ap (λ value. not entry.item.deleted && not (length value == meta.re_len)) (All-head (StandsPlaced Records g) (PlacedEntry entry) units all)
    ∙ right_length entry.item.deleted entry.value meta.re_len (All-head (HasLength meta.re_len) (PlacedEntry entry) units long))
    (right_lengths g meta units (All-tail (StandsPlaced Records g) (PlacedEntry entry) units all)
    (All-tail (HasLength meta.re_len) (PlacedEntry entry) units long))
right_lengths g meta (PlacedPairs key first more ∷ units) all long = absurd (All-head (StandsPlaced Records g) (PlacedPairs key first more) units all)
right_lengths g meta (PlacedTree key root values ∷ units) all long = absurd (All-head (StandsPlaced Records g) (PlacedTree key root values) units all)

pub records_keep_length : RecordsKeepLength
records_keep_length g meta leaf holds long = grind (arith, right_lengths)
