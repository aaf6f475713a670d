-- The pages of trees in a file that linking accepts: children are pages of trees a level below, so the leaves are had level by level.
use Rattle.std.proofs.Common.{◌≡◌, ◌⊎◌, ℕ, zero, suc, ◌+◌, ◌-◌, ◌<◌, ◌≤◌, Bool, true, false, List, [], ◌∷◌, length, arith, refl, sym, ◌∙◌, ap, subst, inl, inr}
use Rattle.std.proofs.Common.{length-append, Option, Some, None, ◌==◌, ◌&&◌, nat_lt, ◌%◌, get_or, Contains, filter, flat_map}
use Rattle.std.proofs.lemmas.Bool.{and_left, ne_eqb, cases_lt, eq-eqb, eqb-false, eqb-true, ltb-false, not-false, or_parts}
use Rattle.std.proofs.lemmas.List.{get_or_past}
use Rattle.std.proofs.lemmas.List.Elements.{Contains-append_right, Contains-get_or}
use Rattle.bdb_overflow.specs.of_format.declared.metadata.BtreeMeta.{BtreeMeta}
use Rattle.bdb_overflow.specs.of_format.declared.pages.RecnoItem.{RecnoItem}
use Rattle.bdb_overflow.specs.of_format.declared.references.Reference.{Reference}
use Rattle.bdb_overflow.specs.of_format.declared.references.Sort.{Sort}
use Rattle.bdb_overflow.specs.of_format.declared.references.Sort.TheVariants.{Child, DuplicateRoot, Root}
use Rattle.bdb_overflow.specs.of_format.Terms.{BtreeFields, Content, DupLeaf, File, Hash, Internal, Item, Leaf, LeafPlace, Listed, Meta, Owner, Page}
use Rattle.bdb_overflow.specs.of_format.Terms.{RecnoInternal, RecnoLeaf, Tree, all_references, asked_by, child_types, children_in, content_targets}
use Rattle.bdb_overflow.specs.of_format.Terms.{contents_in, file_of, first_free, fit_code, fit_rows, has_type, head_of, header_in, is_asked, is_root_reference}
use Rattle.bdb_overflow.specs.of_format.Terms.{is_shared_key, is_wrong_link, is_zero_page, leaf_places, leaves, leaves_in, leaves_under, no_item, page_at}
use Rattle.bdb_overflow.specs.of_format.Terms.{places_from, reference_faults, refs, root_references, root_types, structure_faults, structure_rows, targets_in}
use Rattle.bdb_overflow.specs.of_format.Terms.{type_in}
use Rattle.bdb_overflow.proofs.of_format.GraphLemmas.{each_fits}
use Rattle.bdb_overflow.proofs.of_format.MemberLemmas.{first_member, in_filter, in_flat_map, in_map, none_passes, of_flat_map}
use Rattle.bdb_overflow.proofs.of_format.VerdictLemmas.{AllFail, no_rows_at, none_is_first_row}
use Rattle.bdb_overflow.proofs.of_format.TargetLemmas.{held_named, own_held}
use Rattle.bdb_overflow.specs.of_image.Linked.{FitsDupRoot, FitsLeafPage, FitsTreeRoot, HasMetadata, IsForest, IsTarget}
use Rattle.bdb_overflow.proofs.of_graph.ChildLemmas.{NamesChild, child_named, children_are, is_queue_page}
use Rattle.bdb_overflow.proofs.of_graph.ForestLemmas.{sound_graph}
use Rattle.bdb_overflow.proofs.of_graph.LinkedLemmas.{named_target, root_fits as target_fits}
use Rattle.bdb_overflow.proofs.of_graph.TargetLemmas.{is_no_queue}
use Rattle.bdb_overflow.specs.of_form.declared.view.PageView.{PageView}
use Rattle.bdb_overflow.specs.of_form.Seen.{page_seen}
use Rattle.bdb_tree.specs.Noted.{is_leaf_page}
use Rattle.bdb_tree.specs.Trees.{IsRoot, IsTreePage}
use Rattle.bdb_tree.proofs.ShapeLemmas.{IsFormedPage, IsInnerPage, IsLeafPage, SetsAreData, formed_at, is_tree_in, leaf_shape, no_queue, tree_in}
use Rattle.bdb_tree.proofs.ShapeLemmas.{tree_shape, IsAlone}
use Rattle.bdb_overflow.proofs.of_format.ListLemmas.{flat_map_same, in_enumerated, only_member}
use Rattle.bdb_overflow.proofs.of_format.BoolLemmas.{second_false, first_or_none}
use Rattle.bdb_overflow.proofs.of_format.ReferenceLemmas.{forest_names, of_all}
use Rattle.bdb_overflow.proofs.of_format.TypeLemmas.{AllTypes, of_type, either_types}
use Rattle.bdb_overflow.proofs.of_format.FileLemmas.{pages_counted}

abbrev pub level : File → ℕ → ℕ
level file p = (header_in (page_at file p)).level

-- Pages that are there.

-- a page with a type is there
pub typed_inside : (image types : List ℕ) (p : ℕ) → has_type types (type_in (page_at (file_of image) p)) ≡ true → p ≤ (file_of image).last
typed_inside image types p has = grind (arith, cases_lt, pages_counted, get_or_past)

pub tree_inside : (image : List ℕ) (p : ℕ) → IsTreePage (file_of image) p → p ≤ (file_of image).last
tree_inside image p tree = typed_inside image (3 ∷ 4 ∷ 5 ∷ 6 ∷ 12 ∷ []) p tree

pub leaf_inside : (image : List ℕ) (p : ℕ) → FitsLeafPage (file_of image) p → p ≤ (file_of image).last
leaf_inside image p leaf = typed_inside image (5 ∷ 6 ∷ 12 ∷ []) p leaf

pub leaf_is_tree : (file : File) (p : ℕ) → FitsLeafPage file p → IsTreePage file p
leaf_is_tree file p leaf =
    of_type (λ type. has_type (3 ∷ 4 ∷ 5 ∷ 6 ∷ 12 ∷ []) type ≡ true) (5 ∷ 6 ∷ 12 ∷ []) (type_in (page_at file p)) (refl, (refl, (refl, tt))) leaf

pub tree_is : (image : List ℕ) (p : ℕ) → IsForest image → IsTreePage (file_of image) p → is_tree_in (page_at (file_of image) p) ≡ true
tree_is image p forest tree = tree_in (page_at (file_of image) p) (formed_at image p forest (tree_inside image p tree)) tree

-- a leaf as its view shows it
pub leaf_view : (image : List ℕ) (p : ℕ) (view : PageView) → IsForest image → FitsLeafPage (file_of image) p
    → page_seen view ≡ page_at (file_of image) p → is_leaf_page (page_seen view) ≡ true
leaf_view image p view forest leaf seen =
    ap is_leaf_page seen ∙ leaf_shape (page_at (file_of image) p) (tree_is image p forest (leaf_is_tree (file_of image) p leaf)) leaf

-- a page of a tree is an internal page or a leaf
pub tree_cases : (image : List ℕ) (p : ℕ) → IsForest image → IsTreePage (file_of image) p
    → IsInnerPage (page_at (file_of image) p) ⊎ IsLeafPage (page_at (file_of image) p)
tree_cases image p forest tree =
    tree_shape (page_at (file_of image) p) (formed_at image p forest (tree_inside image p tree)) (tree_is image p forest tree)

-- a page by its type

typed_tree : (image : List ℕ) (p t : ℕ) → IsForest image → has_type (3 ∷ 4 ∷ 5 ∷ 6 ∷ 12 ∷ []) (Some t) ≡ true
    → type_in (page_at (file_of image) p) ≡ Some t → is_tree_in (page_at (file_of image) p) ≡ true
typed_tree image p t forest tree is = tree_is image p forest (ap (has_type (3 ∷ 4 ∷ 5 ∷ 6 ∷ 12 ∷ [])) is ∙ tree)

pub recno_internal_page : (image : List ℕ) (p : ℕ) → IsForest image → type_in (page_at (file_of image) p) ≡ Some 4
    → (page : Listed RecnoItem) × (page_at (file_of image) p ≡ RecnoInternal page)
recno_internal_page image p forest is = of (page_at (file_of image) p) (typed_tree image p 4 forest refl is) is
  where
    of : (page : Page) → is_tree_in page ≡ true → type_in page ≡ Some 4 → (inner : Listed RecnoItem) × (page ≡ RecnoInternal inner)
    of (RecnoInternal page) tree is = (page, refl)
    of page tree is = absurd cc

pub leaf_page : (image : List ℕ) (p : ℕ) → IsForest image → type_in (page_at (file_of image) p) ≡ Some 5
    → (page : Listed Item) × (page_at (file_of image) p ≡ Leaf page)
leaf_page image p forest is = of (page_at (file_of image) p) (typed_tree image p 5 forest refl is) is
  where
    of : (page : Page) → is_tree_in page ≡ true → type_in page ≡ Some 5 → (inner : Listed Item) × (page ≡ Leaf inner)
    of (Leaf page) tree is = (page, refl)
    of page tree is = absurd cc

pub recno_leaf_page : (image : List ℕ) (p : ℕ) → IsForest image → type_in (page_at (file_of image) p) ≡ Some 6
    → (page : Listed Item) × (page_at (file_of image) p ≡ RecnoLeaf page)
recno_leaf_page image p forest is = of (page_at (file_of image) p) (typed_tree image p 6 forest refl is) is
  where
    of : (page : Page) → is_tree_in page ≡ true → type_in page ≡ Some 6 → (inner : Listed Item) × (page ≡ RecnoLeaf inner)
    of (RecnoLeaf page) tree is = (page, refl)
    of page tree is = absurd cc

pub dup_leaf_page : (image : List ℕ) (p : ℕ) → IsForest image → type_in (page_at (file_of image) p) ≡ Some 12
    → (page : Listed Item) × (page_at (file_of image) p ≡ DupLeaf page)
dup_leaf_page image p forest is = of (page_at (file_of image) p) (typed_tree image p 12 forest refl is) is
  where
    of : (page : Page) → is_tree_in page ≡ true → type_in page ≡ Some 12 → (inner : Listed Item) × (page ≡ DupLeaf inner)
    of (DupLeaf page) tree is = (page, refl)
    of page tree is = absurd cc

-- What a page names.

-- what a reference of a sort to a page asks, and finds
record Fits (file : File) (holder : ℕ) (sort : Sort) (target : ℕ) : Type 0 where
  inside : target ≤ file.last
  above : 1 ≤ target
  type : has_type (asked_by holder (page_at file holder) sort).types (type_in (page_at file target)) ≡ true
  level : is_asked (asked_by holder (page_at file holder) sort).level (level file target) ≡ true

-- the sorts that ask for a type and no zero page
abbrev asks_kind : Sort → Bool
asks_kind Child = true
asks_kind Root = true
asks_kind DuplicateRoot = true
asks_kind sort = false

no_zero : (holder : ℕ) (page target : Page) (sort : Sort) → asks_kind sort ≡ true
    → ((asked_by holder page sort).or_zero && is_zero_page target) ≡ false
no_zero holder page target Child is = refl
no_zero holder page target sort is = cc

held_fits : (file : File) (p : ℕ) (reference : Reference) (sort : Sort) (target : ℕ) → reference_faults file ≡ [] → p ≤ file.last
    → asks_kind sort ≡ true → Contains (refs file p) reference → reference.sort ≡ sort → reference.target ≡ target → Fits file p sort target
unfolding fit_code
held_fits file p reference sort target none low kind held sort_is target_is =
    let asked = asked_by p (page_at file p) reference.sort in
    let fail = none_is_first_row (fit_rows file asked reference.target) (each_fits file p reference none low held) in
    let range = or_parts (reference.target == 0) (nat_lt file.last reference.target) fail.0 in
    let some : reference.target ≡ 0 → ⊥ = eqb-false reference.target 0 range.0 in
    subst (λ s. Fits file p s target) sort_is
    (subst (Fits file p reference.sort) target_is
    (record {
      inside = ltb-false file.last reference.target range.1;
      above = omega arith;
      type = first_or_none _ _ (no_zero p (page_at file p) (page_at file reference.target) reference.sort (ap asks_kind sort_is ∙ kind)) fail.1.0;
      level = not-false _ fail.1.1.0;
    }))

-- Children.

pub inner_type : (page : Page) (children : List ℕ) → children_in page ≡ Some children → has_type (3 ∷ 4 ∷ 5 ∷ 6 ∷ 12 ∷ []) (type_in page) ≡ true
inner_type (Internal page) children are = refl
inner_type page children are = cc

-- the types of children are types of trees
child_tree : (page : Page) → AllTypes (λ type. has_type (3 ∷ 4 ∷ 5 ∷ 6 ∷ 12 ∷ []) type ≡ true) (child_types page)
child_tree (Internal page) = grind (arith, either_types)
child_tree (RecnoInternal page) =
    either_types (λ type. has_type (3 ∷ 4 ∷ 5 ∷ 6 ∷ 12 ∷ []) type ≡ true) (page.header.level == 2) (6 ∷ []) (4 ∷ []) (refl, tt) (refl, tt)
child_tree page = tt

-- a page below another: it's there, a page of a tree, one level below, and of a type that the page above asks for
pub record IsChild (file : File) (p c : ℕ) : Type 0 where
  pub inside : c ≤ file.last
  pub above : 1 ≤ c
  pub tree : IsTreePage file c
  pub level : (header_in (page_at file c)).level + 1 ≡ (header_in (page_at file p)).level
  pub type : has_type (child_types (page_at file p)) (type_in (page_at file c)) ≡ true

inner_level : (page : Page) (children : List ℕ) → IsFormedPage page → children_in page ≡ Some children → 2 ≤ (header_in page).level
inner_level (Internal page) children formed are = formed.0
inner_level (RecnoInternal page) children formed are = formed.0
inner_level page children formed are = absurd cc

pub child_is : (image : List ℕ) (p c : ℕ) (children : List ℕ) → IsForest image → children_in (page_at (file_of image) p) ≡ Some children
    → Contains children c → IsChild (file_of image) p c
child_is image p c children forest are at =
    let file : File = file_of image in
    let page : Page = page_at file p in
    let low : p ≤ file.last = tree_inside image p (inner_type page children are) in
    let names : NamesChild file p c = child_named file p c (subst (λ cs. Contains cs c) (sym (children_are image p children forest low are)) at) in
    let fits : Fits file p Child c =
    held_fits file p names.reference Child c (sound_graph image forest.linked).references low refl names.held names.child names.target in
    let high : 2 ≤ level file p = inner_level page children (formed_at image p forest low) are in
    let below : level file p - 1 ≡ level file c = eqb-true (level file p - 1) (level file c) fits.level in
    record {
      inside = fits.inside;
      above = fits.above;
      tree = of_type (λ type. has_type (3 ∷ 4 ∷ 5 ∷ 6 ∷ 12 ∷ []) type ≡ true) (child_types page) (type_in (page_at file c))
          (child_tree page) fits.type;
      level = omega arith;
      type = fits.type;
    }

-- Leaves.

leaves_step : (levels : ℕ) (file : File) (p : ℕ) (children : Option (List ℕ)) → children_in (page_at file p) ≡ children
    → leaves_in (suc levels) file p ≡ leaves_under (leaves_in levels file) p children
unfolding leaves_in
leaves_step levels file p children are = ap (leaves_under (leaves_in levels file) p) are

-- a leaf is the only one at or below it
pub leaves_of_leaf : (file : File) (p : ℕ) → IsLeafPage (page_at file p) → leaves file p ≡ p ∷ []
leaves_of_leaf file p leaf = ap (λ n. leaves_in n file p) leaf.level ∙ leaves_step 0 file p None leaf.none

-- the leaves below an internal page are those below its children, in order
pub leaves_of_inner : (image : List ℕ) (p : ℕ) (children : List ℕ) → IsForest image → children_in (page_at (file_of image) p) ≡ Some children
    → leaves (file_of image) p ≡ flat_map (leaves (file_of image)) children
leaves_of_inner image p children forest are = of (level (file_of image) p) refl
  where
    of : (n : ℕ) → level (file_of image) p ≡ n → leaves (file_of image) p ≡ flat_map (leaves (file_of image)) children
    of zero is =
        let low : p ≤ (file_of image).last = tree_inside image p (inner_type (page_at (file_of image) p) children are) in
        let high : 2 ≤ level (file_of image) p = inner_level (page_at (file_of image) p) children (formed_at image p forest low) are in
        absurd (omega arith)
    of (suc n) is =
        ap (λ k. leaves_in k (file_of image) p) is
        ∙ (leaves_step n (file_of image) p (Some children) are
        ∙ flat_map_same (leaves_in n (file_of image)) (leaves (file_of image)) children (λ c at.
        let child : IsChild (file_of image) p c = child_is image p c children forest are at in
        let same : n ≡ level (file_of image) c = omega (arith, child.level) in
        ap (λ k. leaves_in k (file_of image) c) same))

-- a page of a tree stands above level 0
pub tree_level : (image : List ℕ) (p : ℕ) → IsForest image → IsTreePage (file_of image) p → 1 ≤ level (file_of image) p
tree_level image p forest tree =
    elim (tree_cases image p forest tree) [ inl inner ↦ omega (arith, inner.level) | inr leaf ↦ omega (arith, leaf.level) ]

-- what goes down from a page to those below it
abbrev pub GoesDown : List ℕ → (ℕ → Type 0) → Type 0
GoesDown image P = (p c : ℕ) (children : List ℕ) → P p → children_in (page_at (file_of image) p) ≡ Some children → Contains children c → P c

-- what holds of leaves, and of a page where it holds of its children, holds of each page of a tree
up_tree : (levels : ℕ) (image : List ℕ) (Q : ℕ → Type 0) → IsForest image → ((p : ℕ) → IsLeafPage (page_at (file_of image) p) → Q p)
    → ((p : ℕ) (inner : IsInnerPage (page_at (file_of image) p)) → ((c : ℕ) → Contains inner.children c → Q c) → Q p)
    → (p : ℕ) → level (file_of image) p ≡ levels → IsTreePage (file_of image) p → Q p
up_tree zero image Q forest at_leaf at_inner p is tree = absurd (omega (arith, tree_level image p forest tree))
up_tree (suc n) image Q forest at_leaf at_inner p is tree =
    elim (tree_cases image p forest tree) [
      | inr leaf ↦ at_leaf p leaf
      | inl inner ↦
          at_inner p inner (λ c at.
          let child : IsChild (file_of image) p c = child_is image p c inner.children forest inner.are at in
          up_tree n image Q forest at_leaf at_inner c (omega (arith, child.level)) child.tree)
    ]

-- what goes down from a page of a tree holds for each leaf below it, and that is a leaf
leaves_have : (image : List ℕ) (P : ℕ → Type 0) (p q : ℕ) → IsForest image → GoesDown image P → IsTreePage (file_of image) p → P p
    → Contains (leaves (file_of image) p) q → P q × FitsLeafPage (file_of image) q
leaves_have image P p q forest down tree =
    let file : File = file_of image in
    up_tree (level file p) image (λ r. P r → Contains (leaves file r) q → P q × FitsLeafPage file q) forest
    (λ r leaf here at.
    let same : r ≡ q = only_member r q (subst (λ ps. Contains ps q) (leaves_of_leaf file r leaf) at) in
    (subst P same here, subst (FitsLeafPage file) same leaf.type))
    (λ r inner below here at.
    let under = subst (λ ps. Contains ps q) (leaves_of_inner image r inner.children forest inner.are) at in
    let found = of_flat_map (leaves file) inner.children q under in
    below found.0 found.1 (down r found.0 inner.children here inner.are found.1) found.2) p refl tree

-- each leaf at or below a page of a tree is a leaf
pub leaf_fits : (image : List ℕ) (p q : ℕ) → IsForest image → IsTreePage (file_of image) p → Contains (leaves (file_of image) p) q
    → FitsLeafPage (file_of image) q
leaf_fits image p q forest tree at = (leaves_have image (λ _. Unit {0}) p q forest (λ _ _ _ _ _ _. tt) tree tt at).1

pub leaf_low : (image : List ℕ) (p q : ℕ) → IsForest image → IsTreePage (file_of image) p → Contains (leaves (file_of image) p) q
    → q ≤ (file_of image).last
leaf_low image p q forest tree at = leaf_inside image q (leaf_fits image p q forest tree at)

some_of_parts : {X Y : Type 0} (f : X → List Y) (xs : List X) → 0 < length xs → ((x : X) → Contains xs x → 0 < length (f x))
    → 0 < length (flat_map f xs)
some_of_parts f [] some each = some
some_of_parts f (x ∷ xs) some each = let first : 0 < length (f x) = each x (first_member x xs) in omega (arith, length-append (f x) (flat_map f xs))

-- a page of a tree has a leaf at or below it
pub some_leaf : (image : List ℕ) (p : ℕ) → IsForest image → IsTreePage (file_of image) p → 0 < length (leaves (file_of image) p)
some_leaf image p forest tree =
    let file : File = file_of image in
    up_tree (level file p) image (λ r. 0 < length (leaves file r)) forest (λ r leaf. omega (arith, ap length (leaves_of_leaf file r leaf)))
    (λ r inner below.
    let some : 0 < length (flat_map (leaves file) inner.children) = some_of_parts (leaves file) inner.children inner.some below in
    omega (arith, ap length (leaves_of_inner image r inner.children forest inner.are))) p refl tree

-- The types of leaves.

abbrev pub HasTypeAt : File → List ℕ → ℕ → Type 0
HasTypeAt file types p = has_type types (type_in (page_at file p)) ≡ true

-- the pages below one of a recno or of unsorted duplicates
recno_below : (page : Page) (children : List ℕ) → has_type (4 ∷ 6 ∷ []) (type_in page) ≡ true → children_in page ≡ Some children
    → AllTypes (λ type. has_type (4 ∷ 6 ∷ []) type ≡ true) (child_types page)
recno_below (RecnoInternal page) children has are =
    either_types (λ type. has_type (4 ∷ 6 ∷ []) type ≡ true) (page.header.level == 2) (6 ∷ []) (4 ∷ []) (refl, tt) (refl, tt)
recno_below page children has are = absurd cc

wider : (small big : List ℕ) (file : File) (p : ℕ) → AllTypes (λ type. has_type big type ≡ true) small → HasTypeAt file small p → HasTypeAt file big p
wider small big file p all has = of_type (λ type. has_type big type ≡ true) small (type_in (page_at file p)) all has

-- a leaf below a page of a recno or of unsorted duplicates is one of records
pub recno_leaf : (image : List ℕ) (p q : ℕ) → IsForest image → HasTypeAt (file_of image) (4 ∷ 6 ∷ []) p → Contains (leaves (file_of image) p) q
    → type_in (page_at (file_of image) q) ≡ Some 6
recno_leaf image p q forest has at =
    let file : File = file_of image in
    let tree : IsTreePage file p = wider (4 ∷ 6 ∷ []) (3 ∷ 4 ∷ 5 ∷ 6 ∷ 12 ∷ []) file p (refl, (refl, tt)) has in
    let below : HasTypeAt file (4 ∷ 6 ∷ []) q × FitsLeafPage file q =
    leaves_have image (HasTypeAt file (4 ∷ 6 ∷ [])) p q forest
    (λ p c children here are below. of_type (λ type. has_type (4 ∷ 6 ∷ []) type ≡ true) (child_types (page_at file p)) (type_in (page_at file c))
    (recno_below (page_at file p) children here are) (child_is image p c children forest are below).type)
    tree has at in
    of_type (λ type. has_type (4 ∷ 6 ∷ []) type ≡ true → type ≡ Some 6) (5 ∷ 6 ∷ 12 ∷ []) (type_in (page_at file q))
    (λ other. absurd cc, (λ _. refl, (λ other. absurd cc, tt))) below.1 below.0

-- Roots.

-- a root fits the reference that names it
root_fits : (image : List ℕ) (sort : Sort) (r : ℕ) → IsForest image → asks_kind sort ≡ true → (is : IsTarget (file_of image) sort r)
    → Fits (file_of image) is.owner.holder sort r
root_fits image sort r forest kind is =
    let file : File = file_of image in
    let held = of_all file is.owner is.held in
    held_fits file is.owner.holder is.owner.reference sort r (sound_graph image forest.linked).references held.0 kind held.1 is.sort_is is.target_is

root_keyed_or_recno : (page : Page) (type : Option ℕ) → has_type (root_types page) type ≡ true
    → (has_type (3 ∷ 5 ∷ []) type ≡ true) ⊎ (has_type (4 ∷ 6 ∷ []) type ≡ true)
root_keyed_or_recno (Meta (BtreeFields meta)) type has = grind arith
root_keyed_or_recno page None has = absurd cc
root_keyed_or_recno page (Some t) has = absurd cc

-- the root that metadata names is one of a btree or one of a recno
pub root_cases : (image : List ℕ) (r : ℕ) → IsForest image → FitsTreeRoot (file_of image) r
    → HasTypeAt (file_of image) (3 ∷ 5 ∷ []) r ⊎ HasTypeAt (file_of image) (4 ∷ 6 ∷ []) r
root_cases image r forest is =
    root_keyed_or_recno (page_at (file_of image) is.owner.holder) (type_in (page_at (file_of image) r)) (root_fits image Root r forest refl is).type

-- the root that metadata names has one of the types that it asks for
pub meta_root_type : (image : List ℕ) (meta : BtreeMeta) → IsForest image → HasMetadata (file_of image) (BtreeFields meta)
    → has_type (root_types (Meta (BtreeFields meta))) (type_in (page_at (file_of image) meta.root)) ≡ true
unfolding refs
meta_root_type image meta forest has =
    let file : File = file_of image in
    let name : Sort × ℕ = (Root, meta.root) in
    let forest_kind = is_no_queue file Root meta.root (target_fits image (head_of image) meta forest.formed has) in
    let names =
    forest_names file.kind has.page (page_at file has.page) forest_kind
    ∙ ap (targets_in has.page) has.is in
    let found =
    in_enumerated 0 _ name (subst (λ ns. Contains ns name) (sym names)
    (Contains-append_right (first_free has.page meta.free) (name ∷ []) name (first_member name []))) in
    subst (λ page. has_type (root_types page) (type_in (page_at file meta.root)) ≡ true) has.is
    (held_fits file has.page (record { place = found.0; sort = Root; target = meta.root }) Root meta.root (sound_graph image forest.linked).references
    has.inside refl
    (in_map (λ (named : ℕ × (Sort × ℕ)). record { place = named.0; sort = named.1.0; target = named.1.1 }) _ (found.0, name) found.1) refl refl).type

pub root_is_tree : (image : List ℕ) (r : ℕ) → IsForest image → IsRoot (file_of image) r → IsTreePage (file_of image) r
root_is_tree image r forest is =
    elim is [
      | inl root ↦
          elim (root_cases image r forest root) [
            | inl keyed ↦ wider (3 ∷ 5 ∷ []) (3 ∷ 4 ∷ 5 ∷ 6 ∷ 12 ∷ []) (file_of image) r (refl, (refl, tt)) keyed
            | inr recno ↦ wider (4 ∷ 6 ∷ []) (3 ∷ 4 ∷ 5 ∷ 6 ∷ 12 ∷ []) (file_of image) r (refl, (refl, tt)) recno
          ]
      | inr dup ↦ wider (3 ∷ 4 ∷ 6 ∷ 12 ∷ []) (3 ∷ 4 ∷ 5 ∷ 6 ∷ 12 ∷ []) (file_of image) r (refl, (refl, (refl, (refl, tt))))
          (root_fits image DuplicateRoot r forest refl dup).type
    ]

-- Faults of leaves.

-- where no row of the stage holds, no place of a leaf has a wrong link
pub link_is_right : (file : File) (place : LeafPlace) → structure_faults file ≡ [] → place.leaf ≤ file.last → Contains (leaf_places file) place
    → is_wrong_link file place ≡ false
unfolding structure_faults
link_is_right file place none low at =
    let p : ℕ = place.leaf in
    let fail : AllFail (structure_rows file p) = no_rows_at 6 0 (file.last + 1) p (structure_rows file) none (omega arith) (omega arith) in
    second_false (p == p) (is_wrong_link file place) (eq-eqb p p refl)
    (none_passes (λ (other : LeafPlace). other.leaf == p && is_wrong_link file other) (leaf_places file) place fail.1.1.0 at)

-- the places of the leaves below a root
pub place_of_root : (file : File) (sort : Sort) (r : ℕ) (place : LeafPlace) → is_root_reference sort ≡ true → IsTarget file sort r
    → Contains (places_from sort 0 (leaves file r)) place → Contains (leaf_places file) place
unfolding leaf_places root_references
place_of_root file sort r place root is at =
    let owner : Owner = is.owner in
    let same : places_from owner.reference.sort 0 (leaves file owner.reference.target) ≡ places_from sort 0 (leaves file r) =
    ap (λ s. places_from s 0 (leaves file owner.reference.target)) is.sort_is ∙ ap (λ t. places_from sort 0 (leaves file t)) is.target_is in
    in_flat_map (λ (o : Owner). places_from o.reference.sort 0 (leaves file o.reference.target))
    (filter (λ (o : Owner). is_root_reference o.reference.sort) (all_references file)) owner place
    (in_filter (λ (o : Owner). is_root_reference o.reference.sort) (all_references file) owner is.held (ap is_root_reference is.sort_is ∙ root))
    (subst (λ places. Contains places place) (sym same) at)

-- Sets off the page.

-- a set off the page that an item of a page is names the root of duplicates
set_named : (image : List ℕ) (p root : ℕ) (page : Page) (content : Content) → IsForest image → p ≤ (file_of image).last
    → page_at (file_of image) p ≡ page
    → is_queue_page page ≡ false
    → Contains (contents_in page) content → content ≡ Tree root → FitsDupRoot (file_of image) root
set_named image p root page content forest low is other held set =
    let file : File = file_of image in
    let names =
    forest_names file.kind p (page_at file p) (no_queue image (head_of image) p forest.formed low (ap is_queue_page is ∙ other))
    ∙ ap (targets_in p) is in
    named_target file p DuplicateRoot root low
    (subst (λ ns. Contains ns (DuplicateRoot, root)) (sym names)
    (held_named p page content (DuplicateRoot, root) held
    (subst (λ c. Contains (content_targets c) (DuplicateRoot, root)) (sym set) (first_member (DuplicateRoot, root) []))))

-- data of a hash page that are a set off the page name the root of duplicates
pub hash_dup_root : (image : List ℕ) (p i root : ℕ) (page : Listed Item) → IsForest image → p ≤ (file_of image).last
    → page_at (file_of image) p ≡ Hash page → i < length page.items
    → (get_or page.items i no_item).content ≡ Tree root → FitsDupRoot (file_of image) root
hash_dup_root image p i root page forest low is below set =
    set_named image p root (Hash page) (get_or page.items i no_item).content forest low is refl
    (in_map (λ (item : Item). item.content) page.items (get_or page.items i no_item) (Contains-get_or page.items i no_item below)) set

odd_not_shared : (offsets : List ℕ) (i : ℕ) → i % 2 ≡ 1 → is_shared_key offsets i ≡ false
odd_not_shared offsets i odd = grind (arith, and_left, ne_eqb)

pub set_alone : (content : Content) (root : ℕ) → content ≡ Tree root → IsAlone content → ⊥
set_alone content root is alone = subst IsAlone is alone

-- a set off the page is at an odd index
pub odd_set : (items : List Item) (i root : ℕ) → SetsAreData items → i < length items → (get_or items i no_item).content ≡ Tree root → i % 2 ≡ 1
odd_set items i root sets below is =
    elim (sets i below) [ inl alone ↦ absurd (set_alone (get_or items i no_item).content root is alone) | inr odd ↦ odd ]

-- data of a leaf that are a set off the page name the root of duplicates
pub leaf_dup_root : (image : List ℕ) (p i root : ℕ) (page : Listed Item) → IsForest image → p ≤ (file_of image).last
    → page_at (file_of image) p ≡ Leaf page → i < length page.items
    → (get_or page.items i no_item).content ≡ Tree root → FitsDupRoot (file_of image) root
leaf_dup_root image p i root page forest low is below set =
    let formed : IsFormedPage (Leaf page) = subst IsFormedPage is (formed_at image p forest low) in
    let odd : i % 2 ≡ 1 = odd_set page.items i root formed.1 below set in
    set_named image p root (Leaf page) (get_or page.items i no_item).content forest low is refl
    (own_held page i below (odd_not_shared page.offsets i odd)) set
