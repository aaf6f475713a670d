-- Leaves with their units, under the levels over them.
use Rattle.std.proofs.Common.{arith, ◌≡◌, ◌⊎◌, ℕ, ◌+◌, Option, inl, inr, Bool, true, get_or, List, [], ◌∷◌, map, Some, None, refl, ◌∙◌, ap, subst}
use Rattle.bdb_mkleaves.proofs.Common.{All, AllZip, flat_map, list_any, All-cons, All-head, All-map, All-nil, All-tail, File, children_in, has_type, header_in, leaves_in, page_at, places_from}
use Rattle.bdb_mkleaves.proofs.Common.{type_in, is_wrong_place, leaf_types, HasLeaves, IsOver, IsTower, Node, InnerType, Keyed, Numbered, all_over, towers_have_leaves, inner_number, Entry, IsLeafIn}
use Rattle.bdb_mkleaves.proofs.Common.{type_number, AreLaid, IsTreeLaid, IsNodeOf, LaidTreesAreLinked, LaidTreesHaveLeaves, entries_on, inner_of, HoldsUnits, LeafUnits, pages_of, LeafType, Pairs}
use Rattle.bdb_mkleaves.proofs.Common.{Records, SortedData}
use Rattle.bdb_law_levels.specs.Links.{AreLinked}
use Rattle.bdb_law_levels.proofs.LinkLemmas.{links_of_towers, links_stand}

-- A page that is a leaf.

-- what the pages above see of it
pub record IsAtBottom (type : LeafType) (g : File) (p : ℕ) : Type 0 where
  pub level : (header_in (page_at g p)).level ≡ 1
  pub type_is : type_in (page_at g p) ≡ Some (type_number type)
  pub childless : children_in (page_at g p) ≡ None

-- and its neighbours
record IsBetween (type : LeafType) (g : File) (p previous next : ℕ) : Type 0 where
  bottom : IsAtBottom type g p
  before : (header_in (page_at g p)).previous ≡ previous
  after : (header_in (page_at g p)).next ≡ next

is_between : (type : LeafType) (g : File) (p previous next : ℕ) (entries : List Entry) → IsLeafIn type g p previous next entries
    → IsBetween type g p previous next
is_between Pairs g p previous next entries leaf = grind arith
is_between Records g p previous next entries leaf = grind arith
is_between SortedData g p previous next entries leaf = grind arith

-- Leaves in their order.

pub hold_units : (type : LeafType) (g : File) (before : ℕ) (placed : List LeafUnits) → AreLaid type g before placed → All (HoldsUnits type g) placed
hold_units type g before [] laid = All-nil (HoldsUnits type g)
hold_units type g before (leaf ∷ placed) laid = grind (arith, All-cons, hold_units type g leaf.page placed laid.2)

pub at_bottom : (type : LeafType) (g : File) (leaf : LeafUnits) → HoldsUnits type g leaf → IsAtBottom type g leaf.page
at_bottom type g leaf holds = (is_between type g leaf.page holds.previous holds.next (entries_on leaf) holds.is_leaf).bottom

are_linked : (type : LeafType) (g : File) (before : ℕ) (placed : List LeafUnits) → AreLaid type g before placed → AreLinked g before (pages_of placed)
are_linked type g before [] laid = tt
are_linked type g before (leaf ∷ placed) laid = grind (arith, is_between, are_linked type g leaf.page placed laid.2)

-- The nodes of leaves.

-- what holds of leaves holds of their nodes
pub of_leaves : (R : LeafUnits → Node → Type 0) (P : LeafUnits → Type 0) (Q : Node → Type 0)
    → ((leaf : LeafUnits) (node : Node) → R leaf node → P leaf → Q node) → (placed : List LeafUnits) (nodes : List Node) → AllZip R placed nodes
    → All P placed → All Q nodes
of_leaves R P Q each [] [] zip all = All-nil Q
of_leaves R P Q each [] (node ∷ nodes) zip all = absurd zip
of_leaves R P Q each (leaf ∷ placed) [] zip all = absurd zip
of_leaves R P Q each (leaf ∷ placed) (node ∷ nodes) zip all =
    All-cons Q node nodes (each leaf node zip.0 (All-head P leaf placed all)) (of_leaves R P Q each placed nodes zip.1 (All-tail P leaf placed all))

pub both_zip : (R S : LeafUnits → Node → Type 0) (placed : List LeafUnits) (nodes : List Node) → AllZip R placed nodes → AllZip S placed nodes
    → AllZip (λ leaf node. R leaf node × S leaf node) placed nodes
both_zip R S [] [] one two = tt
both_zip R S [] (node ∷ nodes) one two = absurd one
both_zip R S (leaf ∷ placed) [] one two = absurd one
both_zip R S (leaf ∷ placed) (node ∷ nodes) one two = ((one.0, two.0), both_zip R S placed nodes one.1 two.1)

pub node_pages : (type : LeafType) (placed : List LeafUnits) (nodes : List Node) → AllZip (IsNodeOf type) placed nodes
    → map (λ (node : Node). node.page) nodes ≡ pages_of placed
node_pages type [] [] zip = refl
node_pages type [] (node ∷ nodes) zip = absurd zip
node_pages type (leaf ∷ placed) [] zip = absurd zip
node_pages type (leaf ∷ placed) (node ∷ nodes) zip = rw (zip.0.page, node_pages type placed nodes zip.1) refl

pub node_leaves : (type : LeafType) (placed : List LeafUnits) (nodes : List Node) → AllZip (IsNodeOf type) placed nodes
    → flat_map (λ (node : Node). node.leaves) nodes ≡ pages_of placed
node_leaves type [] [] zip = refl
node_leaves type [] (node ∷ nodes) zip = absurd zip
node_leaves type (leaf ∷ placed) [] zip = absurd zip
node_leaves type (leaf ∷ placed) (node ∷ nodes) zip = rw (zip.0.leaves, node_leaves type placed nodes zip.1) refl

one_leaf : (type : LeafType) (g : File) (leaf : LeafUnits) (node : Node) → IsNodeOf type leaf node → HoldsUnits type g leaf → HasLeaves g 1 node
unfolding leaves_in
one_leaf type g leaf node is holds = grind (arith, at_bottom)

-- A tree that is laid.

pub have_leaves : (type : LeafType) (g : File) (rest : ℕ → Bool) (placed : List LeafUnits) (nodes : List Node) (above : List (List Node))
    (root : Node)
    → IsTreeLaid type g rest placed nodes above root → All (HasLeaves g 1) nodes
have_leaves type g rest placed nodes above root laid =
    of_leaves (IsNodeOf type) (HoldsUnits type g) (HasLeaves g 1) (one_leaf type g) placed nodes laid.nodes_are
    (hold_units type g 0 placed laid.leaves)

pub laid_trees_have_leaves : LaidTreesHaveLeaves
laid_trees_have_leaves type g rest placed nodes above root laid =
    let have = towers_have_leaves (inner_of type) g 1 nodes above root laid.tower (have_leaves type g rest placed nodes above root laid) in
    ap (λ n. leaves_in n g root.page) have.1.1.level_is ∙ have.1.1.leaves_are ∙ (have.2 ∙ node_leaves type placed nodes laid.nodes_are)

pub laid_trees_are_linked : LaidTreesAreLinked
laid_trees_are_linked type g rest placed nodes above root sort laid right =
    links_of_towers (inner_of type) g sort 1 nodes above root laid.tower (have_leaves type g rest placed nodes above root laid)
    (ap (λ ps. list_any (is_wrong_place g) (places_from sort 0 ps)) (node_leaves type placed nodes laid.nodes_are)
    ∙ links_stand g sort (pages_of placed) (are_linked type g 0 placed laid.leaves)
    (All-map (λ p. has_type (leaf_types sort) (type_in (page_at g p)) ≡ true) (λ (leaf : LeafUnits). leaf.page) placed
    (λ k d low. ap (has_type (leaf_types sort)) (at_bottom type g (get_or placed k d) (hold_units type g 0 placed laid.leaves k d low)).type_is
    ∙ right)))

-- The type of the root.

abbrev pub HasType : File → ℕ → Node → Type 0
HasType g t node = type_in (page_at g node.page) ≡ Some t

inner_typed : (inner : InnerType) (g : File) (level : ℕ) (node : Node) (run : List Node) → IsOver inner g level node run
    → HasType g (inner_number inner) node
inner_typed Keyed g level node [] over = absurd over.items
inner_typed Keyed g level node (first ∷ nodes) over = ap type_in over.items.1
inner_typed Numbered g level node run over = ap type_in over.items.1

-- it is a page of the level at the bottom, or an internal page
root_typed : (inner : InnerType) (g : File) (level t : ℕ) (below : List Node) (above : List (List Node)) (root : Node)
    → IsTower inner g level below above root → All (HasType g t) below → HasType g t root ⊎ HasType g (inner_number inner) root
root_typed inner g level t below [] root tower all = inl (All-head (HasType g t) root [] (subst (All (HasType g t)) tower all))
root_typed inner g level t below (nodes ∷ above) root (over, tower) all =
    let typed = all_over inner g (level + 1) (HasType g t) (HasType g (inner_number inner))
    (λ node run this below. inner_typed inner g (level + 1) node run this)
    nodes below over all in
    elim (root_typed inner g (level + 1) (inner_number inner) nodes above root tower typed) [ inl same ↦ inr same | inr same ↦ inr same ]

pub bottom_types : (type : LeafType) (g : File) (leaf : LeafUnits) (node : Node) → IsNodeOf type leaf node → HoldsUnits type g leaf
    → HasType g (type_number type) node
bottom_types type g leaf node is holds = ap (λ p. type_in (page_at g p)) is.page ∙ (at_bottom type g leaf holds).type_is

-- what is so of a leaf's type and of that of the internal pages is so of the root's
pub root_type_is : (type : LeafType) (g : File) (rest : ℕ → Bool) (placed : List LeafUnits) (nodes : List Node) (above : List (List Node))
    (root : Node)
    → IsTreeLaid type g rest placed nodes above root → (test : Option ℕ → Bool) (b : Bool) → test (Some (type_number type)) ≡ b
    → test (Some (inner_number (inner_of type))) ≡ b → test (type_in (page_at g root.page)) ≡ b
root_type_is type g rest placed nodes above root laid test b at_leaf at_inner =
    let typed = of_leaves (IsNodeOf type) (HoldsUnits type g) (HasType g (type_number type)) (bottom_types type g) placed nodes laid.nodes_are
    (hold_units type g 0 placed laid.leaves) in
    elim (root_typed (inner_of type) g 1 (type_number type) nodes above root laid.tower typed) [
      | inl leaf ↦ ap test leaf ∙ at_leaf
      | inr inner ↦ ap test inner ∙ at_inner
    ]
