-- Filled leaves, of which the first is moved, as the lowest level of their tree.
use Rattle.std.proofs.Common.{◌≡◌, ℕ, suc, zero, ◌+◌, ◌<◌, ◌≤◌, Bool, true, List, [], ◌∷◌, ◌++◌, length, map, drop, set, arith, refl, sym, ◌∙◌, ap, subst, inl}
use Rattle.std.proofs.Common.{inr, length-append, length-set, All, Contains, flat_map}
use Rattle.bdb_mkleaves.proofs.Common.{map-append, All-push, Chain, Content, Inline, Set, Tree, Unknown, byte_at, is_page_size, first_member, later_member, member_cases, no_member, Node, InnerType}
use Rattle.bdb_mkleaves.proofs.Common.{Built, bytes_of, AreFilled, all_contents, unit_contents, HasRootOn, HasTowerOn, CountsOne, child_cost, inner_of, leaf_children, leaf_nodes, Entry, type_number}
use Rattle.bdb_mkleaves.proofs.Common.{AreLeaves, LeavesFrom, AreChildren, AreLinked, IsFirstMoved, LinkedFrom, first_leaf, numbers_of, second_leaf, IsPlacedBySize, Placed, entries_of, CountsOneFrom}
use Rattle.bdb_mkleaves.proofs.Common.{LeafType, Leaves, Child}
use Rattle.bdb_mkleaves.proofs.ChildrenLemmas.{length-children}
use Rattle.bdb_mkleaves.proofs.LeavesLemmas.{leaf_closed}
use Rattle.bdb_mkleaves.proofs.MovedLemmas.{two_leaves}
use Rattle.bdb_mkleaves.proofs.NodesLemmas.{AreNodes, all_units, are_nodes, each_content, each_leaf, leaves_counted}
use Rattle.bdb_mkleaves.proofs.RestLemmas.{no_leaf}
use Rattle.bdb_mkleaves.proofs.RunLemmas.{all_map}

-- Their numbers.

pub some_of : (n : ℕ) → (n ≡ 0 → ⊥) → 1 ≤ n
some_of zero some = absurd (some refl)
some_of (suc n) some = omega arith

set_first : (items : List ℕ) (last n : ℕ) → 1 ≤ length items → set items 0 n ++ (last ∷ []) ≡ n ∷ drop 1 (set items 0 n ++ (last ∷ []))
set_first [] last n some = absurd (omega (arith, some))
set_first (p ∷ ps) last n some = refl

pub moved_numbers : (leaves next : Leaves) (old mid : Built) → 1 ≤ length leaves.closed.items → IsFirstMoved leaves next old mid
    → numbers_of next ≡ length old.pages ∷ drop 1 (numbers_of next)
moved_numbers leaves next old mid several moved =
    let n : ℕ = length old.pages in
    let same : numbers_of next ≡ set leaves.closed.items 0 n ++ (next.last ∷ []) = ap (λ ns. ns ++ (next.last ∷ [])) moved.numbers in
    same ∙ (set_first leaves.closed.items next.last n several ∙ ap (λ ns. n ∷ drop 1 ns) (sym same))

pub moved_there : (leaves next : Leaves) (old mid : Built) → 1 ≤ length leaves.closed.items → IsFirstMoved leaves next old mid
    → (p : ℕ) → Contains (numbers_of next) p → p < length mid.pages
moved_there leaves next old mid several moved p at =
    let n : ℕ = length old.pages in
    let count : length mid.pages ≡ n + 1 = moved.count in
    elim (member_cases n (drop 1 (numbers_of next)) p (subst (λ ns. Contains ns p) (moved_numbers leaves next old mid several moved) at)) [
      | inl here ↦ omega (arith, here, count)
      | inr later ↦ let low = moved.below p later in omega (arith, low, count)
    ]

-- the first two leaves are among them
pub first_two : (leaves : Leaves) → 1 ≤ length leaves.closed.items
    → Contains (numbers_of leaves) (first_leaf leaves) × Contains (numbers_of leaves) (second_leaf leaves)
first_two leaves several =
    let p : ℕ = first_leaf leaves in
    let q : ℕ = second_leaf leaves in
    let rest : List ℕ = drop 2 (numbers_of leaves) in
    let is = (two_leaves leaves.closed.items leaves.last 0 several).0 in (
      subst (λ ns. Contains ns p) (sym is) (first_member p (q ∷ rest)),
      subst (λ ns. Contains ns q) (sym is) (later_member p (q ∷ rest) q (first_member q rest)),
    )

-- the first one has another number, and the others stay
abbrev pub others_of : Leaves → List ℕ
others_of leaves = second_leaf leaves ∷ drop 2 (numbers_of leaves)

pub moved_pages : (leaves next : Leaves) (old mid : Built) → 1 ≤ length leaves.closed.items → IsFirstMoved leaves next old mid
    → (numbers_of leaves ≡ first_leaf leaves ∷ others_of leaves) × (numbers_of next ≡ length old.pages ∷ others_of leaves)
moved_pages leaves next old mid several moved = (
  (two_leaves leaves.closed.items leaves.last 0 several).0,
  ap (λ ns. ns ++ (next.last ∷ [])) moved.numbers
      ∙ (ap (λ l. set leaves.closed.items 0 (length old.pages) ++ (l ∷ [])) moved.last
      ∙ (two_leaves leaves.closed.items leaves.last (length old.pages) several).1),
)

-- What they hold.

pub moved_linked : (leaves next : Leaves) (old mid : Built) (before : ℕ) (closed : List (List Placed)) (units : List Placed)
    → AreFilled leaves old before closed units → IsFirstMoved leaves next old mid
    → AreLinked next mid (map (flat_map entries_of) (closed ++ (units ∷ [])))
moved_linked leaves next old mid before closed units filled moved =
    subst (AreLinked next mid) (sym (map-append (flat_map entries_of) closed (units ∷ [])))
    (moved.hold (map (flat_map entries_of) closed) (flat_map entries_of units) filled.hold)

pub moved_from : (leaves next : Leaves) (old mid : Built) (before : ℕ) (closed : List (List Placed)) (units : List Placed)
    → AreFilled leaves old before closed units → IsFirstMoved leaves next old mid
    → LinkedFrom leaves.leaf_type mid 0 (numbers_of next) (map (flat_map entries_of) (closed ++ (units ∷ []))) 0
moved_from leaves next old mid before closed units filled moved =
    subst (λ t. LinkedFrom t mid 0 (numbers_of next) (map (flat_map entries_of) (closed ++ (units ∷ []))) 0) moved.type
    (moved_linked leaves next old mid before closed units filled moved)

type_at : (type : LeafType) (built : Built) (previous : ℕ) (ps : List ℕ) (all : List (List Entry)) (beyond p : ℕ)
    → LeavesFrom type built previous ps all beyond → Contains ps p → byte_at (bytes_of built p) 25 ≡ type_number type
type_at type built previous [] all beyond p from at = absurd (no_member [] p refl at)
type_at type built previous (q ∷ ps) [] beyond p from at = absurd from
type_at type built previous (q ∷ ps) (entries ∷ all) beyond p (up, holds, rest) at =
    elim (member_cases q ps p at) [
      | inl here ↦ ap (λ k. byte_at (bytes_of built k) 25) (sym here) ∙ holds.type_is
      | inr later ↦ type_at type built q ps all beyond p rest later
    ]

-- the head of a chain is no leaf
head_is_no_leaf : (leaves : Leaves) (old : Built) (closed : List (List Entry)) (entries : List Entry) (p : ℕ) → AreLeaves leaves old closed entries
    → Contains (numbers_of leaves) p → CountsOne old.order (bytes_of old p) → ⊥
head_is_no_leaf leaves old closed entries p hold at counts =
    no_leaf leaves.leaf_type
    (sym (type_at leaves.leaf_type old 0 (numbers_of leaves) (closed ++ (entries ∷ [])) 0 p
    (leaf_closed leaves.leaf_type old 0 leaves.closed.items closed leaves.last 0 entries hold.closed_hold hold.after hold.last_holds) at)
    ∙ counts.type_is)

-- so it stays
pub one_moved : (leaves next : Leaves) (old mid : Built) (before : ℕ) (closed : List (List Entry)) (entries : List Entry) (content : Content)
    → 1 ≤ length leaves.closed.items → AreLeaves leaves old closed entries → IsFirstMoved leaves next old mid → CountsOneFrom before old content
    → CountsOneFrom before mid content
one_moved leaves next old mid before closed entries (Inline bytes) several hold moved counts = tt
one_moved leaves next old mid before closed entries (Chain head total) several hold moved (above, under, counts) =
    let count = moved.count in
    let leaf : (p : ℕ) → Contains (numbers_of leaves) p → head ≡ p → ⊥ =
    λ p at e. head_is_no_leaf leaves old closed entries p hold at (subst (λ k. CountsOne old.order (bytes_of old k)) e counts) in
    let two = first_two leaves several in (
      above,
      omega (arith, under, count),
      subst (λ o. CountsOne o (bytes_of mid head)) (sym moved.order)
          (subst (CountsOne old.order) (sym (moved.same head under (leaf (first_leaf leaves) two.0) (leaf (second_leaf leaves) two.1))) counts),
    )
one_moved leaves next old mid before closed entries (Set blocks) several hold moved counts = tt
one_moved leaves next old mid before closed entries (Tree root) several hold moved counts = tt
one_moved leaves next old mid before closed entries Unknown several hold moved counts = tt

-- The lowest level.

moved_nodes : (leaves next : Leaves) (old mid : Built) (counted : Bool) (before : ℕ) (closed : List (List Placed)) (units : List Placed)
    → is_page_size old.size ≡ true → 1 ≤ length leaves.closed.items → AreFilled leaves old before closed units → 0 < length units
    → IsFirstMoved leaves next old mid → AreNodes leaves.leaf_type counted mid.size mid (numbers_of next) (closed ++ (units ∷ []))
moved_nodes leaves next old mid counted before closed units legal several filled some moved =
    let type : LeafType = leaves.leaf_type in
    let groups : List (List Placed) = closed ++ (units ∷ []) in
    let all : List Placed = flat_map (λ leaf. leaf) groups in
    let sizes = each_leaf (IsPlacedBySize mid.size) groups
    (subst (λ size. All (IsPlacedBySize size) all) (sym moved.size)
    (subst (All (IsPlacedBySize old.size)) (sym (all_units closed units)) filled.sizes)) in
    let stay : All (CountsOneFrom before mid) (all_contents type closed units) =
    all_map (λ content counts. one_moved leaves next old mid before (map (flat_map entries_of) closed)
    (flat_map entries_of units) content several filled.hold
    moved counts) (all_contents type closed units) filled.heads in
    let counts = each_content (CountsOneFrom before mid) type groups
    (subst (λ us. All (CountsOneFrom before mid) (flat_map (unit_contents type) us)) (sym (all_units closed units)) stay) in
    are_nodes type counted mid.size before mid 0 (numbers_of next) groups 0 (ap is_page_size moved.size ∙ legal)
    (moved_from leaves next old mid before closed units filled moved)
    (moved_there leaves next old mid several moved) (All-push (λ us. 0 < length us) closed units filled.some some)
    (λ k d low. record { sizes = sizes k d low; heads = counts k d low })

-- the leaves as children, of whatever type the levels over them are said to be
level_of : (leaves next : Leaves) (old mid : Built) (counted : Bool) (groups : List (List Placed)) (inner : InnerType) (children : List Child)
    → IsFirstMoved leaves next old mid → AreNodes leaves.leaf_type counted mid.size mid (numbers_of next) groups → inner ≡ inner_of next.leaf_type
    → children ≡ leaf_children next.leaf_type counted (numbers_of next) (map (flat_map entries_of) groups)
    → AreChildren inner mid children (leaf_nodes leaves.leaf_type counted (numbers_of next) (map (flat_map entries_of) groups))
level_of leaves next old mid counted groups inner children moved are inner_is is =
    let all : List (List Entry) = map (flat_map entries_of) groups in
    let nodes : List Node = leaf_nodes leaves.leaf_type counted (numbers_of next) all in
    subst (λ i. AreChildren i mid children nodes) (sym (inner_is ∙ ap inner_of moved.type))
    (subst (λ cs. AreChildren (inner_of leaves.leaf_type) mid cs nodes)
    (sym (is ∙ ap (λ t. leaf_children t counted (numbers_of next) all) moved.type))
    are.children)

pub moved_children : (leaves next : Leaves) (old mid : Built) (counted : Bool) (before : ℕ) (closed : List (List Placed)) (units : List Placed)
    (inner : InnerType) (children : List Child)
    → is_page_size old.size ≡ true → 1 ≤ length leaves.closed.items → AreFilled leaves old before closed units → 0 < length units
    → IsFirstMoved leaves next old mid → inner ≡ inner_of next.leaf_type
    → children ≡ leaf_children next.leaf_type counted (numbers_of next) (map (flat_map entries_of) (closed ++ (units ∷ [])))
    → (nodes : List Node) × AreChildren inner mid children nodes × ((node : Node) → Contains nodes node → child_cost inner node + 40 ≤ mid.size)
moved_children leaves next old mid counted before closed units inner children legal several filled some moved inner_is is =
    let are = moved_nodes leaves next old mid counted before closed units legal several filled some moved in (
      leaf_nodes leaves.leaf_type counted (numbers_of next) (map (flat_map entries_of) (closed ++ (units ∷ []))),
      level_of leaves next old mid counted (closed ++ (units ∷ [])) inner children moved are inner_is is,
      (λ node at. subst (λ i. child_cost i node + 40 ≤ mid.size) (sym (inner_is ∙ ap inner_of moved.type)) (are.costs node at)),
    )

pub several_children : (leaves next : Leaves) (old mid : Built) (counted : Bool) (children : List Child) (all : List (List Entry))
    → 1 ≤ length leaves.closed.items → IsFirstMoved leaves next old mid → AreLinked next mid all
    → children ≡ leaf_children next.leaf_type counted (numbers_of next) all → 2 ≤ length children
several_children leaves next old mid counted children all several moved linked is =
    let long = ap length is ∙ length-children next.leaf_type mid counted 0 (numbers_of next) all 0 linked in
    let same = ap length moved.numbers ∙ length-set leaves.closed.items 0 (length old.pages) in
    omega (arith, long, length-append next.closed.items (next.last ∷ []), same, several)

pub leaves_rooted_on : (leaves next : Leaves) (old mid new : Built) (counted : Bool) (before : ℕ) (closed : List (List Placed)) (units : List Placed)
    (inner : InnerType) (children : List Child) (root : ℕ)
    → is_page_size old.size ≡ true → 1 ≤ length leaves.closed.items → AreFilled leaves old before closed units → 0 < length units
    → IsFirstMoved leaves next old mid → inner ≡ inner_of next.leaf_type
    → children ≡ leaf_children next.leaf_type counted (numbers_of next) (map (flat_map entries_of) (closed ++ (units ∷ [])))
    → root ≡ first_leaf leaves → ((nodes : List Node) → AreChildren inner mid children nodes → HasTowerOn inner mid new nodes root)
    → HasRootOn leaves old new counted closed units root
leaves_rooted_on leaves next old mid new counted before closed units inner children root legal several filled some moved inner_is is root_is laid =
    let all : List (List Entry) = map (flat_map entries_of) (closed ++ (units ∷ [])) in
    let are = moved_nodes leaves next old mid counted before closed units legal several filled some moved in
    let nodes : List Node = leaf_nodes leaves.leaf_type counted (numbers_of next) all in
    let level = level_of leaves next old mid counted (closed ++ (units ∷ [])) inner children moved are inner_is is in
    record {
      next = next;
      between = mid;
      several = several;
      moved = moved;
      root_is = root_is;
      nodes = nodes;
      nodes_are = are.nodes;
      counts = leaves_counted counted leaves.leaf_type (numbers_of next) (closed ++ (units ∷ []));
      some = are.units;
      tower = subst (HasTowerOn (inner_of leaves.leaf_type) mid new nodes) root_is
          (subst (λ i. HasTowerOn i mid new nodes root) (inner_is ∙ ap inner_of moved.type) (laid nodes level));
    }
