-- The internal pages of a tower are those of its levels.
use Rattle.std.proofs.Common.{arith, ◌≡◌, ℕ, zero, suc, ◌+◌, Bool, true, false, cond, List, [], ◌∷◌, ◌++◌, map, None, refl, sym, ◌∙◌, ap, subst, ◌==◌, All}
use Rattle.std.proofs.Common.{filter, flat_map, is_some, unwrap_or}
use Rattle.std.proofs.lemmas.Bool.{and_right, or_from}
use Rattle.std.proofs.lemmas.List.Elements.{All-head, All-nil, All-tail, All-cons}
use Rattle.std.proofs.lemmas.List.{map-append}
use Rattle.std.proofs.lemmas.List.Folds.{list_any-append}
use Rattle.bdb_law_grove.specs.of_format.Terms.{File, Page, children_in, inner_in, inner_pages, is_wrong_at, page_at}
use Rattle.bdb_law_levels.specs.Contents.{AreLeaves}
use Rattle.bdb_law_levels.specs.Nodes.{AreOver, IsOver, IsTower, Node}
use Rattle.bdb_law_levels.specs.declared.inner_type.InnerType.{InnerType}
use Rattle.bdb_law_levels.proofs.NodeLemmas.{children_are}

abbrev pub numbers : List Node → List ℕ
numbers nodes = map (λ (node : Node). node.page) nodes

abbrev children_at : File → ℕ → List ℕ
children_at g p = unwrap_or (children_in (page_at g p)) []

abbrev is_inner : File → ℕ → Bool
is_inner g p = is_some (children_in (page_at g p))

-- the test of wrong pages fails at the page of this node
abbrev pub IsRight : File → (Page → Bool) → Node → Type 0
IsRight g test node = test (page_at g node.page) ≡ false

-- no internal page at or below these nodes is wrong
abbrev pub NoneWrong : File → (Page → Bool) → ℕ → List Node → Type 0
NoneWrong g test p nodes = (levels : ℕ) → is_wrong_at g test (inner_in levels g (numbers nodes)) p ≡ false

no_children : (g : File) (nodes : List Node) → AreLeaves g nodes
    → (filter (is_inner g) (numbers nodes) ≡ []) × (flat_map (children_at g) (numbers nodes) ≡ [])
no_children g [] leaves = (refl, refl)
no_children g (node ∷ nodes) leaves =
    let is_leaf : Node → Type 0 = λ node. children_in (page_at g node.page) ≡ None in
    let here = All-head is_leaf node nodes leaves in
    let rest = no_children g nodes (All-tail is_leaf node nodes leaves) in (
      ap (λ children. cond (is_some children) (node.page ∷ filter (is_inner g) (numbers nodes)) (filter (is_inner g) (numbers nodes))) here ∙ rest.0,
      ap (λ children. unwrap_or children [] ++ flat_map (children_at g) (numbers nodes)) here ∙ rest.1,
    )

inner_of_none : (g : File) (levels : ℕ) → inner_in levels g [] ≡ []
inner_of_none g zero = refl
inner_of_none g (suc levels) = inner_of_none g levels

leaves_none_wrong : (g : File) (test : Page → Bool) (p : ℕ) (nodes : List Node) → AreLeaves g nodes → NoneWrong g test p nodes
leaves_none_wrong g test p nodes leaves zero = refl
leaves_none_wrong g test p nodes leaves (suc levels) = grind (arith, no_children, inner_of_none)

-- a level over another

children_below : (type : InnerType) (g : File) (level : ℕ) (nodes below : List Node) → AreOver type g level nodes below
    → flat_map (children_at g) (numbers nodes) ≡ numbers below
children_below type g level [] below over = ap numbers (sym over)
children_below type g level (node ∷ nodes) below (run, rest, is, this, after) =
    grind (arith, children_are, map-append, children_below type g level nodes rest after)

none_at : (g : File) (test : Page → Bool) (p : ℕ) (b : Bool) (q : ℕ) (qs : List ℕ) → test (page_at g q) ≡ false → is_wrong_at g test qs p ≡ false
    → is_wrong_at g test (cond b (q ∷ qs) qs) p ≡ false
none_at g test p true q qs right none = or_from _ _ (and_right (q == p) (test (page_at g q)) right) none
none_at g test p false q qs right none = none

level_right : (g : File) (test : Page → Bool) (p : ℕ) (nodes : List Node) → All (IsRight g test) nodes
    → is_wrong_at g test (filter (is_inner g) (numbers nodes)) p ≡ false
level_right g test p [] right = refl
level_right g test p (node ∷ nodes) right = grind (arith, none_at, All-head, All-tail, level_right g test p nodes (All-tail (IsRight g test) node nodes right))

level_none_wrong : (type : InnerType) (g : File) (test : Page → Bool) (p level : ℕ) (nodes below : List Node) → AreOver type g level nodes below
    → All (IsRight g test) nodes → NoneWrong g test p below → NoneWrong g test p nodes
level_none_wrong type g test p level nodes below over right none zero = refl
level_none_wrong type g test p level nodes below over right none (suc levels) = grind (arith, children_below, list_any-append, or_from, level_right)

-- What is so of each run of the level at the bottom, and then of each run of the next, and makes the page over a run right.
pub record Climbs (type : InnerType) (g : File) (test : Page → Bool) (Facts : ℕ → List Node → Type 0) : Type 0 where
  pub left : (level : ℕ) (run rest : List Node) → Facts level (run ++ rest) → Facts level run
  pub right : (level : ℕ) (run rest : List Node) → Facts level (run ++ rest) → Facts level rest
  pub up : (level : ℕ) (nodes below : List Node) → AreOver type g (level + 1) nodes below → Facts level below → Facts (level + 1) nodes
  pub page : (level : ℕ) (node : Node) (run : List Node) → IsOver type g (level + 1) node run → Facts level run → IsRight g test node

all_right_above : (type : InnerType) (g : File) (test : Page → Bool) (Facts : ℕ → List Node → Type 0) (level : ℕ) (nodes below : List Node)
    → Climbs type g test Facts → AreOver type g (level + 1) nodes below → Facts level below → All (IsRight g test) nodes
all_right_above type g test Facts level [] below climbs over facts = All-nil (IsRight g test)
all_right_above type g test Facts level (node ∷ nodes) below climbs (run, rest, is, this, after) facts =
    let both : Facts level (run ++ rest) = subst (Facts level) is facts in
    All-cons (IsRight g test) node nodes (climbs.page level node run this (climbs.left level run rest both))
    (all_right_above type g test Facts level nodes rest climbs after (climbs.right level run rest both))

tower_none_wrong : (type : InnerType) (g : File) (test : Page → Bool) (Facts : ℕ → List Node → Type 0) (level p : ℕ) (below : List Node)
    (above : List (List Node)) (root : Node) → Climbs type g test Facts → IsTower type g level below above root → Facts level below
    → NoneWrong g test p below → NoneWrong g test p (root ∷ [])
tower_none_wrong type g test Facts level p below [] root climbs tower facts none = subst (NoneWrong g test p) tower none
tower_none_wrong type g test Facts level p below (nodes ∷ above) root climbs (over, tower) facts none =
    tower_none_wrong type g test Facts (level + 1) p nodes above root climbs tower (climbs.up level nodes below over facts)
    (level_none_wrong type g test p (level + 1) nodes below over (all_right_above type g test Facts level nodes below climbs over facts) none)

-- no internal page of a tower over leaves is wrong where each page over a run is right
pub tower_right : (type : InnerType) (g : File) (test : Page → Bool) (Facts : ℕ → List Node → Type 0) (level p : ℕ) (below : List Node)
    (above : List (List Node)) (root : Node) → Climbs type g test Facts → IsTower type g level below above root → Facts level below
    → AreLeaves g below → is_wrong_at g test (inner_pages g root.page) p ≡ false
unfolding inner_pages
tower_right type g test Facts level p below above root climbs tower facts leaves = grind (arith, tower_none_wrong, leaves_none_wrong)
