-- The way down a tree by first children ends at its first leaf.
use Rattle.std.proofs.Common.{◌≡◌, ℕ, ◌<◌, ◌≤◌, List, [], ◌∷◌, ◌++◌, map, length, Option, Some, None, arith, refl, sym, ◌∙◌, ap, subst, inl, inr}
use Rattle.std.specs.List.{flat_map, slice_get}
use Rattle.bdb_overflow.specs.of_format.Terms.{File, Internal, Page, RecnoInternal, children_in, file_of, header_in, leaves, page_at}
use Rattle.bdb_overflow.proofs.of_format.MemberLemmas.{first_member}
use Rattle.bdb_overflow.specs.of_image.Linked.{FitsLeafPage, IsForest}
use Rattle.bdb_tree.specs.Links.{HasItem, first_below}
use Rattle.bdb_tree.specs.Trees.{IsTreePage}
use Rattle.bdb_tree.proofs.ShapeLemmas.{IsFormedPage, formed_at}
use Rattle.bdb_tree.proofs.TreeLemmas.{IsChild, child_is, leaves_of_inner, leaves_of_leaf, some_leaf, tree_cases}

-- a page of a tree whose first leaf is that of another page
pub record HasFirstOf (file : File) (root p : ℕ) : Type 0 where
  pub tree : IsTreePage file p
  pub same : slice_get (leaves file root) 0 ≡ slice_get (leaves file p) 0

first_of_parts : (xs ys : List ℕ) → 0 < length xs → slice_get (xs ++ ys) 0 ≡ slice_get xs 0
first_of_parts [] ys some = absurd (omega arith)
first_of_parts (x ∷ xs) ys some = refl

-- the first child of a page has its first leaf
first_child : (image : List ℕ) (p c : ℕ) (cs : List ℕ) → IsForest image → children_in (page_at (file_of image) p) ≡ Some (c ∷ cs)
    → slice_get (leaves (file_of image) p) 0 ≡ slice_get (leaves (file_of image) c) 0
first_child image p c cs forest are =
    let file : File = file_of image in
    let child : IsChild file p c = child_is image p c (c ∷ cs) forest are (first_member c cs) in
    ap (λ xs. slice_get xs 0) (leaves_of_inner image p (c ∷ cs) forest are)
    ∙ first_of_parts (leaves file c) (flat_map (leaves file) cs) (some_leaf image c forest child.tree)

begins : (o : Option (List ℕ)) (c : ℕ) → Some c ≡ first_below o → (cs : List ℕ) × (o ≡ Some (c ∷ cs))
begins None c some = absurd cc
begins (Some []) c some = absurd cc
begins (Some (x ∷ xs)) c some = (xs, let same : x ≡ c = cc in ap (λ y. Some (y ∷ xs)) same)

-- a step down, to a page of a lower level
pub record StepsDown (image : List ℕ) (root p c : ℕ) : Type 0 where
  pub first : HasFirstOf (file_of image) root c
  pub lower : (header_in (page_at (file_of image) c)).level < (header_in (page_at (file_of image) p)).level

pub steps_down : (image : List ℕ) (root p c : ℕ) → IsForest image → HasFirstOf (file_of image) root p
    → Some c ≡ first_below (children_in (page_at (file_of image) p)) → StepsDown image root p c
steps_down image root p c forest here some =
    let found = begins (children_in (page_at (file_of image) p)) c some in
    let child : IsChild (file_of image) p c = child_is image p c (c ∷ found.0) forest found.1 (first_member c found.0) in
    record {
      first = record { tree = child.tree; same = here.same ∙ first_child image p c found.0 forest found.1 };
      lower = omega (arith, child.level);
    }

some_first : (cs : List ℕ) → 0 < length cs → None ≡ first_below (Some cs) → ⊥
some_first [] some none = omega arith
some_first (c ∷ cs) some none = cc

-- the end of the way is the first leaf
pub record IsFirstLeaf (image : List ℕ) (root p : ℕ) : Type 0 where
  pub first : slice_get (leaves (file_of image) root) 0 ≡ Some p
  pub fits : FitsLeafPage (file_of image) p

pub ends_down : (image : List ℕ) (root p : ℕ) → IsForest image → HasFirstOf (file_of image) root p
    → None ≡ first_below (children_in (page_at (file_of image) p)) → IsFirstLeaf image root p
ends_down image root p forest here none =
    elim (tree_cases image p forest here.tree) [
      | inl inner ↦ absurd (some_first inner.children inner.some (none ∙ ap first_below inner.are))
      | inr leaf ↦ record { first = here.same ∙ ap (λ xs. slice_get xs 0) (leaves_of_leaf (file_of image) p leaf); fits = leaf.type }
    ]

-- The first item of an internal page.

item_of : (page : Page) → IsFormedPage page → HasItem page
item_of (Internal page) formed = formed.1
item_of (RecnoInternal page) formed = formed.1
item_of page formed = tt

-- an internal page has an item
pub has_item : (image : List ℕ) (p : ℕ) (page : Page) → IsForest image → p ≤ (file_of image).last → page ≡ page_at (file_of image) p → HasItem page
has_item image p page forest low is = subst HasItem (sym is) (item_of (page_at (file_of image) p) (formed_at image p forest low))

pub first_of_items : {X : Type 0} (child : X → ℕ) (items : List X) (item : X) → slice_get items 0 ≡ Some item
    → Some (child item) ≡ first_below (Some (map child items))
first_of_items child [] item some = absurd cc
first_of_items child (x ∷ xs) item some = let same : x ≡ item = cc in ap (λ y. Some (child y)) (sym same)
