-- The leaves of a tree, level by level: the pages of one level stand for the leaves below them, and so do their children.
use Rattle.std.proofs.Common.{◌≡◌, ℕ, ◌+◌, ◌<◌, ◌≤◌, List, [], ◌∷◌, ◌++◌, map, arith, refl, sym, ◌∙◌, ap, subst, append_assoc, append-nil, inl, inr, Option}
use Rattle.std.proofs.Common.{Some, None, All, Contains, flat_map, unwrap_or}
use Rattle.std.proofs.lemmas.List.Elements.{All-contains}
use Rattle.bdb_overflow.specs.of_form.declared.view.PageView.{PageView}
use Rattle.bdb_overflow.specs.of_form.Seen.{header_seen, page_seen}
use Rattle.bdb_overflow.specs.of_format.Terms.{File, children_in, file_of, header_in, leaves, page_at}
use Rattle.bdb_overflow.proofs.of_format.MemberLemmas.{first_member, later_member, no_member, of_flat_map}
use Rattle.bdb_overflow.specs.of_image.Linked.{IsForest}
use Rattle.bdb_tree.specs.Trees.{IsTreePage, children_at}
use Rattle.bdb_tree.proofs.ShapeLemmas.{tree_header}
use Rattle.bdb_tree.proofs.TreeLemmas.{IsChild, child_is, leaves_of_inner, leaves_of_leaf, level, tree_cases}
use Rattle.bdb_overflow.proofs.of_format.ListLemmas.{flat_map_twice, only_member, all_of, flat_map_same}

-- one item more, of those that are left
pub children_more : {X : Type 0} (child : X → ℕ) (next before : List ℕ) (item : X) (rest left items : List X) → left ≡ item ∷ rest
    → next ++ map child left ≡ before ++ map child items
    → (next ++ (child item ∷ [])) ++ map child rest ≡ before ++ map child items
children_more child next before item rest left items is had =
    append_assoc next (child item ∷ []) (map child rest) ∙ (ap (λ xs. next ++ map child xs) (sym is) ∙ had)

-- the header of a page of a tree, as its view tells it
pub seen_level : (file : File) (p : ℕ) (view : PageView) → IsTreePage file p → page_seen view ≡ page_at file p
    → (header_seen view).level ≡ (header_in (page_at file p)).level
seen_level file p view tree seen = grind (arith, level, tree_header)

-- Children of pages.

child_at : (image : List ℕ) (p c : ℕ) → IsForest image → Contains (children_at (file_of image) p) c → IsChild (file_of image) p c
child_at image p c forest at = of (children_in (page_at (file_of image) p)) refl
  where
    of : (children : Option (List ℕ)) → children_in (page_at (file_of image) p) ≡ children → IsChild (file_of image) p c
    of None none = absurd (no_member [] c refl (subst (λ cs. Contains (unwrap_or cs []) c) none at))
    of (Some children) are = child_is image p c children forest are (subst (λ cs. Contains (unwrap_or cs []) c) are at)

-- the children of pages are pages of trees
pub children_are_trees : (image pages next : List ℕ) → IsForest image → next ≡ flat_map (children_at (file_of image)) pages
    → All (IsTreePage (file_of image)) next
children_are_trees image pages next forest are =
    all_of (IsTreePage (file_of image)) next (λ c at.
    let page = of_flat_map (children_at (file_of image)) pages c (subst (λ cs. Contains cs c) are at) in
    (child_at image page.0 c forest page.2).tree)

-- Levels.

-- pages of one level, which falls by one with each turn; the leaves below them are all of a tree
pub record IsLevel (file : File) (pages : List ℕ) (turn top : ℕ) (all : List ℕ) : Type 0 where
  pub trees : All (IsTreePage file) pages
  pub level : (p : ℕ) → Contains pages p → (header_in (page_at file p)).level + turn ≡ top + 1
  pub leaves : flat_map (leaves file) pages ≡ all

-- the first page alone
pub first_level : (file : File) (pages : List ℕ) (p top : ℕ) → IsTreePage file p → top ≡ level file p → pages ≡ p ∷ []
    → IsLevel file pages 1 top (leaves file p)
first_level file pages p top tree is alone = grind (arith, all_of, only_member, level, append-nil)

leaves_by_children : (image : List ℕ) (p : ℕ) → IsForest image → IsTreePage (file_of image) p → 2 ≤ level (file_of image) p
    → leaves (file_of image) p ≡ flat_map (leaves (file_of image)) (children_at (file_of image) p)
leaves_by_children image p forest tree high =
    elim (tree_cases image p forest tree) [
      | inl inner ↦ leaves_of_inner image p inner.children forest inner.are
          ∙ ap (λ cs. flat_map (leaves (file_of image)) (unwrap_or cs [])) (sym inner.are)
      | inr leaf ↦ absurd (let one : level (file_of image) p ≡ 1 = leaf.level in omega arith)
    ]

-- the children of pages that are no leaves
pub next_is_level : (image pages next all : List ℕ) (turn top : ℕ) → IsForest image → IsLevel (file_of image) pages turn top all → turn < top
    → next ≡ flat_map (children_at (file_of image)) pages
    → IsLevel (file_of image) next (turn + 1) top all
next_is_level image pages next all turn top forest is more next_is =
    let file : File = file_of image in
    subst (λ ps. IsLevel file ps (turn + 1) top all) (sym next_is)
    (record {
      trees = children_are_trees image pages (flat_map (children_at file) pages) forest refl;
      level = λ c at.
          let page = of_flat_map (children_at file) pages c at in
          omega (arith, (child_at image page.0 c forest page.2).level, is.level page.0 page.1);
      leaves =
          flat_map_twice (leaves file) (children_at file) pages
          ∙ (sym
          (flat_map_same (leaves file) (λ p. flat_map (leaves file) (children_at file p)) pages (λ p at.
          leaves_by_children image p forest (All-contains (IsTreePage file) pages p is.trees at) (omega (arith, is.level p at))))
          ∙ is.leaves);
    })

singles : (f : ℕ → List ℕ) (ps : List ℕ) → ((p : ℕ) → Contains ps p → f p ≡ p ∷ []) → flat_map f ps ≡ ps
singles f [] each = refl
singles f (p ∷ ps) each = rw (each p (first_member p ps), singles f ps (λ q at. each q (later_member p ps q at))) refl

-- pages of the last level are leaves, all of them
pub last_level : (image pages all : List ℕ) (turn top : ℕ) → IsForest image → IsLevel (file_of image) pages turn top all → top ≤ turn → pages ≡ all
last_level image pages all turn top forest is end =
    sym
    (singles (leaves (file_of image)) pages (λ p at.
    let tree : IsTreePage (file_of image) p = All-contains (IsTreePage (file_of image)) pages p is.trees at in
    elim (tree_cases image p forest tree) [
      | inr leaf ↦ leaves_of_leaf (file_of image) p leaf
      | inl inner ↦ absurd (let high : 2 ≤ level (file_of image) p = inner.level in omega (arith, is.level p at))
    ]))
    ∙ is.leaves
