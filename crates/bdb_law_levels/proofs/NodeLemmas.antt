-- Levels of nodes, each over the one below it.
use Rattle.std.proofs.Common.{◌≡◌, ℕ, suc, ◌+◌, List, [], ◌∷◌, ◌++◌, map, Some, append-nil, refl, sym, ◌∙◌, ap, subst, arith, All, flat_map, sum_by}
use Rattle.std.proofs.lemmas.Grind.{flat_map-append}
use Rattle.std.proofs.lemmas.List.Elements.{All-nil, All-cons, All-head, All-tail, All-contains, Contains-append_left, Contains-append_right}
use Rattle.std.proofs.lemmas.List.Sums.{sum_by-cons, sum_by-append}
use Rattle.bdb_law_grove.specs.of_format.declared.pages.RecnoItem.{RecnoItem}
use Rattle.bdb_law_grove.specs.of_format.Terms.{File, InternalItem, children_in, header_in, leaves_in, page_at}
use Rattle.bdb_law_grove.proofs.of_format.ListLemmas.{all_of}
use Rattle.bdb_law_levels.specs.Nodes.{AreOver, HasItems, HasLeaves, IsOver, Node, TowersHaveLeaves, keyed_item, keyed_items, numbered_item}
use Rattle.bdb_law_levels.specs.declared.inner_type.InnerType.{InnerType}
use Rattle.bdb_law_levels.specs.declared.inner_type.InnerType.TheVariants.{Keyed, Numbered}
use Rattle.bdb_law_levels.proofs.LevelLemmas.{leaves_of_children}

-- A page over some pages.

later_children : (nodes : List Node)
    → map (λ (item : InternalItem). item.child) (map (λ (other : Node). keyed_item other.key other) nodes) ≡ map (λ (node : Node). node.page) nodes
later_children [] = refl
later_children (node ∷ nodes) = ap (λ ps. node.page ∷ ps) (later_children nodes)

keyed_children : (nodes : List Node) → map (λ (item : InternalItem). item.child) (keyed_items nodes) ≡ map (λ (node : Node). node.page) nodes
keyed_children [] = refl
keyed_children (node ∷ nodes) = ap (λ ps. node.page ∷ ps) (later_children nodes)

numbered_children : (nodes : List Node) → map (λ (item : RecnoItem). item.child) (map numbered_item nodes) ≡ map (λ (node : Node). node.page) nodes
numbered_children [] = refl
numbered_children (node ∷ nodes) = ap (λ ps. node.page ∷ ps) (numbered_children nodes)

-- its children are those pages
pub children_are : (type : InnerType) (g : File) (p level : ℕ) (nodes : List Node) → HasItems type g p level nodes
    → children_in (page_at g p) ≡ Some (map (λ (node : Node). node.page) nodes)
children_are Keyed g p level [] has = absurd has
children_are Keyed g p level (node ∷ nodes) (page, is, level_is, items, keys) =
    ap children_in is ∙ ap (λ items. Some (map (λ (item : InternalItem). item.child) items)) items ∙ ap Some (keyed_children (node ∷ nodes))
children_are Numbered g p level nodes (page, is, level_is, items) =
    ap children_in is ∙ ap (λ items. Some (map (λ (item : RecnoItem). item.child) items)) items ∙ ap Some (numbered_children nodes)

header_level : (type : InnerType) (g : File) (p level : ℕ) (nodes : List Node) → HasItems type g p level nodes
    → (header_in (page_at g p)).level ≡ level
header_level Keyed g p level [] has = absurd has
header_level Keyed g p level (node ∷ nodes) (page, is, level_is, items, keys) = ap (λ page. (header_in page).level) is ∙ level_is
header_level Numbered g p level nodes (page, is, level_is, items) = ap (λ page. (header_in page).level) is ∙ level_is

leaves_below : (g : File) (level : ℕ) (nodes : List Node) → All (HasLeaves g level) nodes
    → flat_map (leaves_in level g) (map (λ (node : Node). node.page) nodes) ≡ flat_map (λ (node : Node). node.leaves) nodes
leaves_below g level [] have = refl
leaves_below g level (node ∷ nodes) have = grind (arith, All-head, All-tail, leaves_below g level nodes (All-tail (HasLeaves g level) node nodes have))

-- its leaves are theirs
leaves_over : (type : InnerType) (g : File) (level : ℕ) (node : Node) (run : List Node) → IsOver type g (level + 1) node run
    → All (HasLeaves g level) run → HasLeaves g (level + 1) node
leaves_over type g level node run over have = record {
  level_is = header_level type g node.page (level + 1) run over.items;
  leaves_are =
      let next : suc level ≡ level + 1 = omega arith in
      subst (λ n. leaves_in n g node.page ≡ node.leaves) next
      (leaves_of_children g level node.page (map (λ (node : Node). node.page) run) (children_are type g node.page (level + 1) run over.items)
      ∙ leaves_below g level run have ∙ sym over.leaves);
}

-- A level over another.

pub all_left : {X : Type 0} (P : X → Type 0) (xs ys : List X) → All P (xs ++ ys) → All P xs
all_left P xs ys all = all_of P xs (λ x at. All-contains P (xs ++ ys) x all (Contains-append_left xs ys x at))

pub all_right : {X : Type 0} (P : X → Type 0) (xs ys : List X) → All P (xs ++ ys) → All P ys
all_right P xs ys all = all_of P ys (λ y at. All-contains P (xs ++ ys) y all (Contains-append_right xs ys y at))

-- what a page has that stands over pages with some fact, each page has of a level over a level of such pages
pub all_over : (type : InnerType) (g : File) (level : ℕ) (A B : Node → Type 0)
    → ((node : Node) (run : List Node) → IsOver type g level node run → All A run → B node)
    → (nodes below : List Node) → AreOver type g level nodes below → All A below → All B nodes
all_over type g level A B up [] below over all = All-nil B
all_over type g level A B up (node ∷ nodes) below (run, rest, is, this, after) all =
    let both : All A (run ++ rest) = subst (All A) is all in
    All-cons B node nodes (up node run this (all_left A run rest both)) (all_over type g level A B up nodes rest after (all_right A run rest both))

-- a level over one whose pages have their leaves
pub level_has_leaves : (type : InnerType) (g : File) (level : ℕ) (nodes below : List Node) → AreOver type g (level + 1) nodes below
    → All (HasLeaves g level) below → All (HasLeaves g (level + 1)) nodes
level_has_leaves type g level = all_over type g (level + 1) (HasLeaves g level) (HasLeaves g (level + 1)) (leaves_over type g level)

pub leaves_joined : (type : InnerType) (g : File) (level : ℕ) (nodes below : List Node) → AreOver type g level nodes below
    → flat_map (λ (node : Node). node.leaves) nodes ≡ flat_map (λ (node : Node). node.leaves) below
leaves_joined type g level [] below over = ap (flat_map (λ (node : Node). node.leaves)) (sym over)
leaves_joined type g level (node ∷ nodes) below (run, rest, is, this, after) = grind (arith, flat_map-append, leaves_joined type g level nodes rest after)

counts_joined : (type : InnerType) (g : File) (level : ℕ) (nodes below : List Node) → AreOver type g level nodes below
    → sum_by (λ (node : Node). node.count) nodes ≡ sum_by (λ (node : Node). node.count) below
counts_joined type g level [] below over = ap (sum_by (λ (node : Node). node.count)) (sym over)
counts_joined type g level (node ∷ nodes) below (run, rest, is, this, after) =
    sum_by-cons (λ (node : Node). node.count) node nodes
    ∙ ap (λ n. n + sum_by (λ (node : Node). node.count) nodes) this.count
    ∙ ap (λ n. sum_by (λ (node : Node). node.count) run + n) (counts_joined type g level nodes rest after)
    ∙ sym (sum_by-append (λ (node : Node). node.count) run rest) ∙ ap (sum_by (λ (node : Node). node.count)) (sym is)

sum_of_one : (root : Node) → root.count ≡ sum_by (λ (node : Node). node.count) (root ∷ [])
sum_of_one root = omega arith

abbrev HasSomeLeaves : File → Node → Type 0
HasSomeLeaves g node = (height : ℕ) × HasLeaves g height node

pub towers_have_leaves : TowersHaveLeaves
towers_have_leaves type g level below [] root tower have = (
  All-nil (All (HasSomeLeaves g)),
  (level, All-head (HasLeaves g level) root [] (subst (All (HasLeaves g level)) tower have)),
  sym (append-nil root.leaves) ∙ ap (flat_map (λ (node : Node). node.leaves)) (sym tower),
  sum_of_one root ∙ ap (sum_by (λ (node : Node). node.count)) (sym tower),
)
towers_have_leaves type g level below (nodes ∷ above) root (over, tower) have =
    let here : All (HasLeaves g (level + 1)) nodes = level_has_leaves type g level nodes below over have in
    let rest = towers_have_leaves type g (level + 1) nodes above root tower here in (
      All-cons (All (HasSomeLeaves g)) nodes above (λ k d low. (level + 1, here k d low)) rest.0,
      rest.1,
      rest.2 ∙ leaves_joined type g (level + 1) nodes below over,
      rest.3 ∙ counts_joined type g (level + 1) nodes below over,
    )
