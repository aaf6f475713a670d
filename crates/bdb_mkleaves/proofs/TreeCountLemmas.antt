-- How many pages a tree has over its leaves.
use Rattle.std.proofs.Common.{◌≡◌, ℕ, zero, suc, ◌+◌, ◌-◌, ◌≤◌, List, [], ◌∷◌, ◌++◌, length, map, arith, refl, sym, ◌∙◌, ap, subst, inl, inr, length-append, length-set, ◌/◌}
use Rattle.bdb_mkleaves.proofs.Common.{All, AllZip, flat_map, le-leb, lt-leb, length-map, All-head, All-tail, Chain, Content, Inline, Set, Tree, Unknown, InnerType, Keyed, Numbered, Node, Built}
use Rattle.bdb_mkleaves.proofs.Common.{AreFilled, AreSpreadOver, FinishedTreesAreCounted, child_cost, first_cost, key_cost, HasUnits, IsKeyOf, IsNodeOf, inner_of, numbers_of, IsPlacedBySize, Placed}
use Rattle.bdb_mkleaves.proofs.Common.{PlacedEntry, PlacedPairs, PlacedTree, StandsBySize, entries_of, unit_of, leaf_with, zip_units, inner_cost, key_item_cost, leaf_key, leaves_and_levels}
use Rattle.bdb_mkleaves.proofs.Common.{pages_over, unit_key, TreeUnit, LeafType, Leaves}
use Rattle.bdb_mkleaves.proofs.GrownLemmas.{as_many}
use Rattle.bdb_mkleaves.proofs.MovedLemmas.{any_order}
use Rattle.bdb_mkleaves.proofs.NodesLemmas.{all_units, each_leaf}

-- What the item over a leaf takes.

content_key_cost : (size : ℕ) (content : Content) (value : List ℕ) → StandsBySize size content value → key_cost content ≡ key_item_cost size value
content_key_cost size (Inline bytes) value stands = rw (stands.0, le-leb (length value) (size / 8) stands.1) refl
content_key_cost size (Chain head total) value stands = rw (lt-leb (length value) (size / 8) stands) refl
content_key_cost size (Set blocks) value stands = absurd stands
content_key_cost size (Tree root) value stands = absurd stands
content_key_cost size Unknown value stands = absurd stands

leaf_cost : (inner : InnerType) (size : ℕ) (unit : Placed) (units : List Placed) (node : Node) → IsPlacedBySize size unit
    → IsKeyOf inner (flat_map entries_of (unit ∷ units)) node.key → child_cost inner node ≡ inner_cost inner size (unit_key (unit_of unit))
leaf_cost Numbered size unit units node sizes key = refl
leaf_cost Keyed size (PlacedEntry entry) units node sizes key = ap key_cost key.0 ∙ content_key_cost size entry.item.content entry.value sizes
leaf_cost Keyed size (PlacedPairs first datum more) units node sizes key = ap key_cost key.0 ∙ content_key_cost size first.item.content first.value sizes.0
leaf_cost Keyed size (PlacedTree first root values) units node sizes key = ap key_cost key.0 ∙ content_key_cost size first.item.content first.value sizes.0

-- those over leaves with units
abbrev costs_of : InnerType → ℕ → List (List Placed) → List ℕ
costs_of inner size groups = map (λ (leaf : List TreeUnit). inner_cost inner size (leaf_key leaf)) (map (map unit_of) groups)

leaf_costs : (type : LeafType) (size : ℕ) (ps : List ℕ) (groups : List (List Placed)) (nodes : List Node) → length ps ≡ length groups
    → AllZip (IsNodeOf type) (zip_units ps groups) nodes → All HasUnits (zip_units ps groups) → All (All (IsPlacedBySize size)) groups
    → map (child_cost (inner_of type)) nodes ≡ costs_of (inner_of type) size groups
leaf_costs type size [] [] [] many zip some sizes = refl
leaf_costs type size [] [] (node ∷ nodes) many zip some sizes = absurd zip
leaf_costs type size [] (group ∷ groups) nodes many zip some sizes = absurd (omega (arith, many))
leaf_costs type size (p ∷ ps) [] nodes many zip some sizes = absurd (omega (arith, many))
leaf_costs type size (p ∷ ps) (group ∷ groups) [] many zip some sizes = absurd zip
leaf_costs type size (p ∷ ps) ([] ∷ groups) (node ∷ nodes) many zip some sizes =
    let none = All-head HasUnits (leaf_with p []) (zip_units ps groups) some in absurd (omega (arith, none))
leaf_costs type size (p ∷ ps) ((unit ∷ units) ∷ groups) (node ∷ nodes) many (is, zip) some sizes =
    let inner : InnerType = inner_of type in
    let rest = leaf_costs type size ps groups nodes (omega (arith, many)) zip
    (All-tail HasUnits (leaf_with p (unit ∷ units)) (zip_units ps groups) some)
    (All-tail (All (IsPlacedBySize size)) (unit ∷ units) groups sizes) in
    let here = leaf_cost inner size unit units node
    (All-head (IsPlacedBySize size) unit units (All-head (All (IsPlacedBySize size)) (unit ∷ units) groups sizes)) is.key in
    ap (λ c. c ∷ map (child_cost inner) nodes) here ∙ ap (λ cs. inner_cost inner size (unit_key (unit_of unit)) ∷ cs) rest

-- The levels.

nodes_many : (type : LeafType) (ps : List ℕ) (groups : List (List Placed)) (nodes : List Node) → length ps ≡ length groups
    → AllZip (IsNodeOf type) (zip_units ps groups) nodes → length nodes ≡ length groups
nodes_many type [] [] [] many zip = refl
nodes_many type [] [] (node ∷ nodes) many zip = absurd zip
nodes_many type [] (group ∷ groups) nodes many zip = absurd (omega (arith, many))
nodes_many type (p ∷ ps) [] nodes many zip = absurd (omega (arith, many))
nodes_many type (p ∷ ps) (group ∷ groups) [] many zip = absurd zip
nodes_many type (p ∷ ps) (group ∷ groups) (node ∷ nodes) many (is, zip) =
    let rest = nodes_many type ps groups nodes (omega (arith, many)) zip in omega (arith, rest)

-- over one page at most stands none
pub few_over : (most room first : ℕ) (costs : List ℕ) → length costs ≤ 1 → pages_over most room first costs ≡ 0
few_over zero room first costs few = refl
few_over (suc most) room first costs few = rw (le-leb (length costs) 1 few) refl

-- the leaves of units that were spread, and the levels over them
spread_total : (type : LeafType) (size : ℕ) (closed : List (List Placed)) (units : List Placed) → AreSpreadOver size closed units
    → leaves_and_levels type size (map unit_of (flat_map (λ leaf. leaf) closed ++ units))
    ≡ length (closed ++ (units ∷ []))
    + pages_over (length (closed ++ (units ∷ []))) (size - 26) (first_cost (inner_of type)) (costs_of (inner_of type) size (closed ++ (units ∷ [])))
spread_total type size closed units spread = grind (arith, length-map)

-- over one leaf stands no level
one_total : (type : LeafType) (size : ℕ) (closed : List (List Placed)) (units : List Placed) → closed ≡ [] → AreSpreadOver size closed units
    → leaves_and_levels type size (map unit_of (flat_map (λ leaf. leaf) closed ++ units)) ≡ length closed + 1
one_total type size closed units none spread = grind (arith, few_over, length-map, spread_total, length-append)

-- over several stand those over the nodes
several_total : (type : LeafType) (size : ℕ) (ps : List ℕ) (closed : List (List Placed)) (units : List Placed) (nodes : List Node)
    → length ps ≡ length (closed ++ (units ∷ [])) → AllZip (IsNodeOf type) (zip_units ps (closed ++ (units ∷ []))) nodes
    → All HasUnits (zip_units ps (closed ++ (units ∷ []))) → All (IsPlacedBySize size) (flat_map (λ leaf. leaf) closed ++ units)
    → AreSpreadOver size closed units
    → leaves_and_levels type size (map unit_of (flat_map (λ leaf. leaf) closed ++ units))
    ≡ length closed + 1 + pages_over (length nodes) (size - 26) (first_cost (inner_of type)) (map (child_cost (inner_of type)) nodes)
several_total type size ps closed units nodes many zip some sizes spread =
    let inner : InnerType = inner_of type in
    let groups : List (List Placed) = closed ++ (units ∷ []) in
    let costs = leaf_costs type size ps groups nodes many zip some
    (each_leaf (IsPlacedBySize size) groups (subst (All (IsPlacedBySize size)) (sym (all_units closed units)) sizes)) in
    spread_total type size closed units spread
    ∙ (ap (λ n. length groups + pages_over n (size - 26) (first_cost inner) (costs_of inner size groups))
    (sym (nodes_many type ps groups nodes many zip))
    ∙ (ap (λ cs. length groups + pages_over (length nodes) (size - 26) (first_cost inner) cs) (sym costs)
    ∙ ap (λ n. n + pages_over (length nodes) (size - 26) (first_cost inner) (map (child_cost inner) nodes)) (length-append closed (units ∷ []))))

-- there are as many closed leaves as lists of their units
closed_many : (leaves : Leaves) (built : Built) (before : ℕ) (closed : List (List Placed)) (units : List Placed)
    → AreFilled leaves built before closed units → length leaves.closed.items ≡ length closed
closed_many leaves built before closed units filled =
    as_many leaves.leaf_type built 0 leaves.closed.items closed leaves.last
    (any_order leaves.leaf_type built 0 leaves.closed.items (map (flat_map entries_of) closed) leaves.last filled.hold.closed_hold)

pub finished_trees_are_counted : FinishedTreesAreCounted
finished_trees_are_counted leaves old new counted before closed units root filled spread (at, inl one) =
    omega (arith, ap (λ (b : Built). length b.pages) one.same, one_total leaves.leaf_type old.size closed units one.closed_is spread)
finished_trees_are_counted leaves old new counted before closed units root filled spread (at, inr on) =
    let type : LeafType = leaves.leaf_type in
    let inner : InnerType = inner_of type in
    let moved = on.moved.count in
    let levels : length new.pages + 1
    ≡ length on.between.pages + pages_over (length on.nodes) (old.size - 26) (first_cost inner) (map (child_cost inner) on.nodes) =
    on.tower.count
    ∙ ap (λ n. length on.between.pages + pages_over (length on.nodes) (n - 26) (first_cost inner) (map (child_cost inner) on.nodes)) on.moved.size in
    let many : length (numbers_of on.next) ≡ length (closed ++ (units ∷ [])) = omega (
      arith,
      closed_many leaves old before closed units filled,
      ap length on.moved.numbers,
      length-set leaves.closed.items 0 (length old.pages),
      length-append on.next.closed.items (on.next.last ∷ []),
      length-append closed (units ∷ []),
    ) in
    let total =
    several_total type old.size (numbers_of on.next) closed units on.nodes many on.nodes_are on.some filled.sizes spread in
    omega (arith, moved, levels, total)
