-- Filled leaves as the lowest level of their tree.
use Rattle.std.proofs.Common.{Bool, ◌≡◌, ◌⊎◌, ℕ, suc, ◌+◌, ◌<◌, ◌≤◌, true, false, List, [], ◌∷◌, ◌++◌, length, map, arith, refl, ◌∙◌, ap, subst, inl, inr}
use Rattle.bdb_mkleaves.proofs.Common.{All, AllZip, Contains, flat_map, append-nil, flat_map-append, All-cons, All-nil, Chain, Content, Inline, Set, Tree, Unknown, is_page_size, first_member}
use Rattle.bdb_mkleaves.proofs.Common.{later_member, member_cases, no_member, size_bounds, Node, all_left, all_right, AreWhole, Built, AreFilled, unit_contents, child_cost, Counts, HasUnits, IsNodeOf}
use Rattle.bdb_mkleaves.proofs.Common.{inner_of, leaf_child, leaf_children, leaf_node, leaf_nodes, Entry, HoldsEntriesOn, AreLeaves, LeavesFrom, first_of, AreChildren, IsChild, KeyStandsOn}
use Rattle.bdb_mkleaves.proofs.Common.{LinkedFrom, Leaves, IsOneValue, IsPlacedBySize, Placed, PlacedEntry, PlacedPairs, PlacedTree, StandsBySize, entries_of, CountsOneFrom, CountsLeaves, IsOneLeaf}
use Rattle.bdb_mkleaves.proofs.Common.{zip_units, LeafType, Pairs, Records, SortedData}

-- The first entry of a unit.

-- a value by its size, and the chain of it
pub record IsFirst (size before : ℕ) (built : Built) (entry : Entry) : Type 0 where
  pub value : List ℕ
  pub by_size : StandsBySize size entry.item.content value
  pub heads : CountsOneFrom before built entry.item.content

-- entries that begin so
pub record Begins (size before : ℕ) (built : Built) (entries : List Entry) : Type 0 where
  pub entry : Entry
  pub others : List Entry
  pub is : entries ≡ entry ∷ others
  pub first : IsFirst size before built entry

unit_begins : (type : LeafType) (size before : ℕ) (built : Built) (unit : Placed) → IsPlacedBySize size unit
    → All (CountsOneFrom before built) (unit_contents type unit) → Begins size before built (entries_of unit)
unit_begins type size before built (PlacedEntry entry) sizes few = record {
  entry = _;
  others = [];
  is = refl;
  first = record { value = entry.value; by_size = sizes; heads = first_few type few };
}
  where
    first_few : (type : LeafType) → All (CountsOneFrom before built) (unit_contents type (PlacedEntry entry))
        → CountsOneFrom before built entry.item.content
    first_few Pairs few = few 0 entry.item.content (omega arith)
    first_few Records few = few 0 entry.item.content (omega arith)
    first_few SortedData few = few 0 entry.item.content (omega arith)
unit_begins type size before built (PlacedPairs key first more) sizes few = record {
  entry = _;
  others = _;
  is = refl;
  first = record { value = key.value; by_size = sizes.0; heads = first_few type few };
}
  where
    first_few : (type : LeafType) → All (CountsOneFrom before built) (unit_contents type (PlacedPairs key first more))
        → CountsOneFrom before built key.item.content
    first_few Pairs few = few 0 key.item.content (omega arith)
    first_few Records few = few 0 key.item.content (omega arith)
    first_few SortedData few = few 0 key.item.content (omega arith)
unit_begins type size before built (PlacedTree key root values) sizes few = record {
  entry = _;
  others = _;
  is = refl;
  first = record { value = key.value; by_size = sizes.0; heads = first_few type few };
}
  where
    first_few : (type : LeafType) → All (CountsOneFrom before built) (unit_contents type (PlacedTree key root values))
        → CountsOneFrom before built key.item.content
    first_few Pairs few = few 0 key.item.content (omega arith)
    first_few Records few = few 0 key.item.content (omega arith)
    first_few SortedData few = few 0 key.item.content (omega arith)

units_begin : (type : LeafType) (size before : ℕ) (built : Built) (units : List Placed) → 0 < length units → All (IsPlacedBySize size) units
    → All (CountsOneFrom before built) (flat_map (unit_contents type) units) → Begins size before built (flat_map entries_of units)
units_begin type size before built [] some sizes few = absurd (omega (arith, some))
units_begin type size before built (unit ∷ units) some sizes few =
    let one = unit_begins type size before built unit (sizes 0 unit (omega arith))
    (all_left (CountsOneFrom before built) (unit_contents type unit) (flat_map (unit_contents type) units) few) in
    record {
      entry = one.entry;
      others = one.others ++ flat_map entries_of units;
      is = ap (λ es. es ++ flat_map entries_of units) one.is;
      first = one.first;
    }

-- A leaf.

one_value : (size : ℕ) (content : Content) (value : List ℕ) → StandsBySize size content value → IsOneValue content
one_value size (Inline bytes) value by_size = tt
one_value size (Chain head total) value by_size = tt
one_value size (Set blocks) value by_size = absurd by_size
one_value size (Tree root) value by_size = absurd by_size
one_value size Unknown value by_size = absurd by_size

-- it's a node of its tree
leaf_is_node : (type : LeafType) (counted : Bool) (size before : ℕ) (built : Built) (p : ℕ) (units : List Placed)
    → (units ≡ []) ⊎ Begins size before built (flat_map entries_of units)
    → IsNodeOf type (record { page = p; units = units }) (leaf_node type counted p (flat_map entries_of units))
leaf_is_node type counted size before built p units begins = grind (arith, one_value)

-- its key stands in it, or in a chain that counts few references
key_stands : (before : ℕ) (built : Built) (content : Content) → IsOneValue content → CountsOneFrom before built content → KeyStandsOn built content
key_stands before built (Inline bytes) one few = tt
key_stands before built (Chain head total) one (low, under, counts) =
    let few = counts.one in (under, record { long = counts.long; type_is = counts.type_is; few = omega (arith, few) })
key_stands before built (Set blocks) one few = absurd one
key_stands before built (Tree root) one few = absurd one
key_stands before built Unknown one few = absurd one

leaf_is_child : (type : LeafType) (counted : Bool) (size before : ℕ) (built : Built) (p previous next : ℕ) (units : List Placed)
    → p < length built.pages
    → HoldsEntriesOn type built p previous next (flat_map entries_of units) → Begins size before built (flat_map entries_of units)
    → IsChild (inner_of type) built (leaf_child type counted p (flat_map entries_of units)) (leaf_node type counted p (flat_map entries_of units))
leaf_is_child type counted size before built p previous next units low holds begins = grind (arith, key_stands, one_value)

-- an item over it costs little
cost_small : (type : LeafType) (counted : Bool) (size before : ℕ) (built : Built) (p : ℕ) (units : List Placed) → is_page_size size ≡ true
    → Begins size before built (flat_map entries_of units)
    → child_cost (inner_of type) (leaf_node type counted p (flat_map entries_of units)) + 40 ≤ size
cost_small type counted size before built p units legal begins = grind (arith, size_bounds)

-- All leaves.

-- a leaf's units, each placed by its size
pub record Fills (type : LeafType) (size before : ℕ) (built : Built) (units : List Placed) : Type 0 where
  pub sizes : All (IsPlacedBySize size) units
  pub heads : All (CountsOneFrom before built) (flat_map (unit_contents type) units)

pub record AreNodes (type : LeafType) (counted : Bool) (size : ℕ) (built : Built) (ps : List ℕ) (groups : List (List Placed)) : Type 0 where
  pub nodes : AllZip (IsNodeOf type) (zip_units ps groups) (leaf_nodes type counted ps (map (flat_map entries_of) groups))
  pub children : AreChildren (inner_of type) built (leaf_children type counted ps (map (flat_map entries_of) groups))
      (leaf_nodes type counted ps (map (flat_map entries_of) groups))
  pub costs : (node : Node) → Contains (leaf_nodes type counted ps (map (flat_map entries_of) groups)) node
      → child_cost (inner_of type) node + 40 ≤ size
  pub units : All HasUnits (zip_units ps groups)

pub are_nodes : (type : LeafType) (counted : Bool) (size before : ℕ) (built : Built) (previous : ℕ) (ps : List ℕ) (groups : List (List Placed))
    (beyond : ℕ)
    → is_page_size size ≡ true → LinkedFrom type built previous ps (map (flat_map entries_of) groups) beyond
    → ((p : ℕ) → Contains ps p → p < length built.pages) → All (λ units. 0 < length units) groups → All (Fills type size before built) groups
    → AreNodes type counted size built ps groups
are_nodes type counted size before built previous [] [] beyond legal linked low some fills =
    record { nodes = tt; children = tt; costs = λ node at. absurd (no_member [] node refl at); units = All-nil HasUnits }
are_nodes type counted size before built previous [] (units ∷ groups) beyond legal linked low some fills = absurd linked
are_nodes type counted size before built previous (p ∷ ps) [] beyond legal linked low some fills = absurd linked
are_nodes type counted size before built previous (p ∷ ps) (units ∷ groups) beyond legal (holds, linked) low some fills =
    let one = fills 0 units (omega arith) in
    let begins = units_begin type size before built units (some 0 units (omega arith)) one.sizes one.heads in
    let rest = are_nodes type counted size before built p ps groups beyond legal linked (λ q at. low q (later_member p ps q at))
    (λ k d under. some (suc k) d (omega (arith, under))) (λ k d under. fills (suc k) d (omega (arith, under))) in
    record {
      nodes = (leaf_is_node type counted size before built p units (inr begins), rest.nodes);
      children = (
        leaf_is_child type counted size before built p previous (first_of ps beyond) units
            (low p (first_member p ps)) holds begins,
        rest.children,
      );
      costs = λ node at.
          elim (member_cases (leaf_node type counted p (flat_map entries_of units))
          (leaf_nodes type counted ps (map (flat_map entries_of) groups)) node at) [
            | inl here ↦ subst (λ (n : Node). child_cost (inner_of type) n + 40 ≤ size) here
                (cost_small type counted size before built p units legal begins)
            | inr later ↦ rest.costs node later
          ];
      units = All-cons HasUnits (record { page = p; units = units }) (zip_units ps groups) (some 0 units (omega arith)) rest.units;
    }

-- Filled leaves.

-- what holds of each unit holds of those of each leaf
pub each_leaf : (P : Placed → Type 0) (groups : List (List Placed)) → All P (flat_map (λ leaf. leaf) groups) → All (All P) groups
each_leaf P [] all = All-nil (All P)
each_leaf P (units ∷ groups) all =
    All-cons (All P) units groups (all_left P units (flat_map (λ leaf. leaf) groups) all)
    (each_leaf P groups (all_right P units (flat_map (λ leaf. leaf) groups) all))

pub each_content : (P : Content → Type 0) (type : LeafType) (groups : List (List Placed))
    → All P (flat_map (unit_contents type) (flat_map (λ leaf. leaf) groups))
    → All (λ units. All P (flat_map (unit_contents type) units)) groups
each_content P type [] all = All-nil (λ units. All P (flat_map (unit_contents type) units))
each_content P type (units ∷ groups) all =
    let split : All P (flat_map (unit_contents type) units ++ flat_map (unit_contents type) (flat_map (λ leaf. leaf) groups)) =
    subst (All P) (flat_map-append (unit_contents type) units (flat_map (λ leaf. leaf) groups)) all in
    All-cons (λ us. All P (flat_map (unit_contents type) us)) units groups
    (all_left P (flat_map (unit_contents type) units) (flat_map (unit_contents type) (flat_map (λ leaf. leaf) groups)) split)
    (each_content P type groups
    (all_right P (flat_map (unit_contents type) units) (flat_map (unit_contents type) (flat_map (λ leaf. leaf) groups)) split))

pub all_units : (closed : List (List Placed)) (units : List Placed)
    → flat_map (λ leaf. leaf) (closed ++ (units ∷ [])) ≡ flat_map (λ leaf. leaf) closed ++ units
all_units closed units = flat_map-append (λ leaf. leaf) closed (units ∷ []) ∙ ap (λ us. flat_map (λ leaf. leaf) closed ++ us) (append-nil units)

-- Counts.

counts_told : (type : LeafType) (ps : List ℕ) (groups : List (List Placed))
    → AllZip (Counts type) (zip_units ps groups) (leaf_nodes type true ps (map (flat_map entries_of) groups))
counts_told type [] groups = tt
counts_told type (p ∷ ps) [] = tt
counts_told type (p ∷ ps) (units ∷ groups) = grind (arith, counts_told type ps groups)

none_told : (type : LeafType) (ps : List ℕ) (all : List (List Entry)) → All (λ (node : Node). node.count ≡ 0) (leaf_nodes type false ps all)
none_told type [] all = All-nil (λ (node : Node). node.count ≡ 0)
none_told type (p ∷ ps) [] = All-nil (λ (node : Node). node.count ≡ 0)
none_told type (p ∷ ps) (entries ∷ all) =
    All-cons (λ (node : Node). node.count ≡ 0) (leaf_node type false p entries) (leaf_nodes type false ps all) refl (none_told type ps all)

pub leaves_counted : (counted : Bool) (type : LeafType) (ps : List ℕ) (groups : List (List Placed))
    → CountsLeaves counted type (zip_units ps groups) (leaf_nodes type counted ps (map (flat_map entries_of) groups))
leaves_counted true type ps groups = counts_told type ps groups
leaves_counted false type ps groups = none_told type ps (map (flat_map entries_of) groups)

-- One leaf.

no_groups : (leaves : Leaves) (built : Built) (closed : List (List Placed)) (entries : List Entry) → leaves.closed.items ≡ []
    → AreLeaves leaves built (map (flat_map entries_of) closed) entries → closed ≡ []
no_groups leaves built [] entries none hold = refl
no_groups leaves built (units ∷ closed) entries none hold =
    absurd (subst (λ ns. LeavesFrom leaves.leaf_type built 0 ns (map (flat_map entries_of) (units ∷ closed)) leaves.last) none hold.closed_hold)

pub leaf_rooted : (leaves : Leaves) (built : Built) (counted : Bool) (before : ℕ) (closed : List (List Placed)) (units : List Placed)
    → leaves.closed.items ≡ [] → AreWhole built → AreFilled leaves built before closed units → IsOneLeaf leaves built built counted closed units
leaf_rooted leaves built counted before closed units none whole filled =
    let units_of_last : AreFilled leaves built before closed units → Fills leaves.leaf_type built.size before built units = λ filled. record {
      sizes = all_right (IsPlacedBySize built.size) (flat_map (λ leaf. leaf) closed) units filled.sizes;
      heads = all_right (CountsOneFrom before built) (flat_map (unit_contents leaves.leaf_type) (flat_map (λ leaf. leaf) closed))
          (flat_map (unit_contents leaves.leaf_type) units)
          (subst (All (CountsOneFrom before built))
          (flat_map-append (unit_contents leaves.leaf_type) (flat_map (λ leaf. leaf) closed) units) filled.heads);
    } in
    record {
      numbers = none;
      closed_is = no_groups leaves built closed (flat_map entries_of units) none filled.hold;
      same = refl;
      whole = whole;
      node = leaf_node leaves.leaf_type counted leaves.last (flat_map entries_of units);
      node_is = leaf_is_node leaves.leaf_type counted built.size before built leaves.last units (begins_or_none units (units_of_last filled));
      counts = leaves_counted counted leaves.leaf_type (leaves.last ∷ []) (units ∷ []);
    }
  where
    begins_or_none : (us : List Placed) → Fills leaves.leaf_type built.size before built us
        → (us ≡ []) ⊎ Begins built.size before built (flat_map entries_of us)
    begins_or_none [] fills = inl refl
    begins_or_none (unit ∷ us) fills = inr (units_begin leaves.leaf_type built.size before built (unit ∷ us) (omega arith) fills.sizes fills.heads)

-- Which of the two.

-- several leaves have a unit on the last
pub last_has_unit : (leaves : Leaves) (built : Built) (before : ℕ) (closed : List (List Placed)) (units : List Placed)
    → (length leaves.closed.items ≡ 0 → ⊥)
    → AreFilled leaves built before closed units → (closed ≡ []) ⊎ (0 < length units) → 0 < length units
last_has_unit leaves built before closed units several filled (inr some) = some
last_has_unit leaves built before closed units several filled (inl none) =
    absurd (no_leaves leaves.closed.items several
    (subst (λ groups. LeavesFrom leaves.leaf_type built 0 leaves.closed.items
    (map (flat_map entries_of) groups) leaves.last) none filled.hold.closed_hold))
  where
    no_leaves : (ps : List ℕ) → (length ps ≡ 0 → ⊥) → LeavesFrom leaves.leaf_type built 0 ps [] leaves.last → ⊥
    no_leaves [] several hold = several refl
    no_leaves (p ∷ ps) several hold = hold
