-- The root of a tree of data says how many data there are.
use Rattle.std.proofs.Common.{◌≡◌, ℕ, suc, ◌<◌, Bool, true, false, List, [], ◌∷◌, ◌++◌, length, map, arith, refl, sym, ◌∙◌, ap, length-append, None, is_some}
use Rattle.bdb_mkhash.proofs.Common.{AllZip, flat_map, sum_by, flat_map-append, length-map, map-append, sum_by-cons, File, Item, Listed, Tree, children_in, data_of, header_in, page_at, IsCounted}
use Rattle.bdb_mkhash.proofs.Common.{IsLater, Built, file_so_far, set_type, spread_units, page_room, HasSum}
use Rattle.bdb_mktree.specs.of_law_levels.Nodes.{IsTower, Node}
use Rattle.bdb_mktree.specs.of_mkleaves.Laid.{AreLaid, Counts, IsNodeOf, IsTreeLaid, entries_on, inner_of, number_on}
use Rattle.bdb_mktree.specs.of_mkleaves.Layout.{IsTreeOn, live_entry}
use Rattle.bdb_mktree.specs.of_mkleaves.LeafEntries.{leaf_of}
use Rattle.bdb_mktree.specs.of_mkleaves.Placed.{LeafUnits, Placed, PlacedEntry, PlacedPairs, PlacedTree, entries_of, unit_of}
use Rattle.bdb_mktree.specs.of_mkleaves.declared.leaf_type.LeafType.{LeafType}
use Rattle.bdb_mktree.specs.of_mkleaves.declared.leaf_type.LeafType.TheVariants.{Pairs, Records, SortedData}
use Rattle.bdb_mkhash.proofs.SpreadLemmas.{spread_all}

-- How many entries leaves have.

-- a datum is one entry
one_each : (units : List Placed) (values : List (List ℕ)) → map unit_of units ≡ map live_entry values → length (flat_map entries_of units) ≡ length units
one_each [] values same = refl
one_each (unit ∷ units) [] same = absurd cc
one_each (PlacedEntry entry ∷ units) (value ∷ values) same =
    let rest : map unit_of units ≡ map live_entry values = cc in ap suc (one_each units values rest)
one_each (PlacedPairs key first more ∷ units) (value ∷ values) same = absurd cc
one_each (PlacedTree key root data' ∷ units) (value ∷ values) same = absurd cc

-- a leaf of a set counts its entries
entries_counted : (sorted : Bool) (leaf : LeafUnits) → number_on (set_type sorted) leaf ≡ length (entries_on leaf)
entries_counted true leaf = refl
entries_counted false leaf = refl

abbrev units_below : List LeafUnits → List Placed
units_below placed = flat_map (λ (leaf : LeafUnits). leaf.units) placed

entries_below : (placed : List LeafUnits) → flat_map entries_on placed ≡ flat_map entries_of (units_below placed)
entries_below [] = refl
entries_below (leaf ∷ placed) = ap (λ es. entries_on leaf ++ es) (entries_below placed) ∙ sym (flat_map-append entries_of leaf.units (units_below placed))

counted_below : (sorted : Bool) (placed : List LeafUnits) (nodes : List Node) → AllZip (Counts (set_type sorted)) placed nodes
    → sum_by (λ (node : Node). node.count) nodes ≡ length (flat_map entries_on placed)
counted_below sorted [] [] counts = refl
counted_below sorted [] (node ∷ nodes) counts = absurd counts
counted_below sorted (leaf ∷ placed) [] counts = absurd counts
counted_below sorted (leaf ∷ placed) (node ∷ nodes) (here, rest) =
    let first = here ∙ entries_counted sorted leaf in
    let later = counted_below sorted placed nodes rest in
    let sum = sum_by-cons (λ (one : Node). one.count) node nodes in
    let long = length-append (entries_on leaf) (flat_map entries_on placed) in
    omega (arith, first, later, sum, long)

units_spread : (placed : List LeafUnits)
    → flat_map (λ units. units) (map (λ (leaf : LeafUnits). map unit_of leaf.units) placed) ≡ map unit_of (units_below placed)
units_spread [] = refl
units_spread (leaf ∷ placed) = ap (λ us. map unit_of leaf.units ++ us) (units_spread placed) ∙ sym (map-append unit_of leaf.units (units_below placed))

-- all data of a set are entries of its leaves
data_counted : (sorted : Bool) (size : ℕ) (placed : List LeafUnits) (nodes : List Node) (values : List (List ℕ))
    → map (λ (leaf : LeafUnits). map unit_of leaf.units) placed ≡ spread_units size (map live_entry values)
    → AllZip (Counts (set_type sorted)) placed nodes → sum_by (λ (node : Node). node.count) nodes ≡ length values
data_counted sorted size placed nodes values spread counts =
    let units : map unit_of (units_below placed) ≡ map live_entry values =
    sym (units_spread placed) ∙ ap (flat_map (λ us. us)) spread ∙ spread_all (page_room size) _ _ (page_room size) [] (map live_entry values) in
    let long = length-map (units_below placed) unit_of in
    let many = ap length units ∙ length-map values live_entry in
    let entries = one_each (units_below placed) values units in
    counted_below sorted placed nodes counts ∙ ap length (entries_below placed) ∙ omega (arith, entries, long, many)

-- A root that stands over leaves.

no_children : (type : LeafType) (page : Listed Item) → children_in (leaf_of type page) ≡ None
no_children Pairs page = refl
no_children Records page = refl
no_children SortedData page = refl

-- one leaf alone is no such root
leaf_alone : (type : LeafType) (g : File) (before : ℕ) (placed : List LeafUnits) (nodes : List Node) (top : Node) → AreLaid type g before placed
    → AllZip (IsNodeOf type) placed nodes → nodes ≡ top ∷ [] → is_some (children_in (page_at g top.page)) ≡ true → ⊥
leaf_alone type g before [] [] top laid zip one inner = absurd cc
leaf_alone type g before [] (node ∷ nodes) top laid zip one inner = absurd zip
leaf_alone type g before (leaf ∷ placed) [] top laid zip one inner = absurd zip
leaf_alone type g before (leaf ∷ placed) (node ∷ nodes) top laid zip one inner = grind (arith, no_children)

pub set_summed : (g : File) (built : Built) (pages : ℕ → Bool) (sorted : Bool) (values : List (List ℕ)) (root : ℕ)
    → IsTreeOn (set_type sorted) built pages true (map live_entry values) root → IsCounted g → IsLater pages (file_so_far built) g
    → data_of g (Tree root) ≡ values → HasSum g (Tree root)
set_summed g built pages sorted values root on counted later data_is inner =
    by_levels on.tree.above laid.tower laid.summed
  where
    laid : IsTreeLaid (set_type sorted) g on.rest on.tree.placed on.tree.nodes on.tree.above on.tree.top
    laid = on.stands g counted later

    at_top : is_some (children_in (page_at g on.tree.top.page)) ≡ true
    at_top = ap (λ p. is_some (children_in (page_at g p))) on.root_is ∙ inner

    by_levels : (above : List (List Node)) → IsTower (inner_of (set_type sorted)) g 1 on.tree.nodes above on.tree.top
        → (0 < length above → (header_in (page_at g on.tree.top.page)).previous ≡ sum_by (λ (node : Node). node.count) on.tree.nodes)
        → (header_in (page_at g root)).previous ≡ length (data_of g (Tree root))
    by_levels [] tower summed =
        absurd (leaf_alone (set_type sorted) g 0 on.tree.placed on.tree.nodes on.tree.top laid.leaves laid.nodes_are tower at_top)
    by_levels (nodes ∷ above) tower summed =
        ap (λ p. (header_in (page_at g p)).previous) (sym on.root_is)
        ∙ (summed (omega arith)
        ∙ (data_counted sorted built.size on.tree.placed on.tree.nodes values on.out.spread on.out.counts ∙ ap length (sym data_is)))
