-- The pages of a tree of records, and the entries below a page.
use Rattle.std.proofs.Common.{arith, ◌≡◌, ◌⊎◌, ℕ, ◌≤◌, Bool, true, false, cond, List, [], ◌∷◌, ◌++◌, map, Option, Some, None, refl, sym, ◌∙◌, ap, subst, inl}
use Rattle.std.proofs.Common.{inr, append-nil, ◌==◌, Contains, flat_map}
use Rattle.std.proofs.lemmas.List.Concat.{flat_map-append}
use Rattle.std.proofs.lemmas.List.Elements.{Contains-append_right}
use Rattle.bdb_tree.specs.of_form.declared.view.PageView.{PageView}
use Rattle.bdb_tree.specs.of_form.declared.view.PageView.TheVariants.{RecnoInternal as InternalView, RecnoLeaf as LeafView}
use Rattle.bdb_tree.specs.of_form.Seen.{page_seen}
use Rattle.bdb_tree.specs.of_image.Linked.{HasMetadata, IsForest}
use Rattle.bdb_tree.specs.of_format.declared.metadata.BtreeMeta.{BtreeMeta}
use Rattle.bdb_tree.specs.of_format.declared.pages.RecnoItem.{RecnoItem}
use Rattle.bdb_tree.specs.of_format.Terms.{BtreeFields, File, Item, Listed, RecnoInternal, RecnoLeaf, child_types, children_in, file_of, has_type, is_recno}
use Rattle.bdb_tree.specs.of_format.Terms.{leaves, page_at, tree_entries, type_in}
use Rattle.bdb_recno.specs.Pages.{IsRecnoPage, IsRecnoLeaf}
use Rattle.bdb_tree.specs.Entries.{entries_on}
use Rattle.bdb_tree.specs.Trees.{IsTreePage}
use Rattle.bdb_tree.proofs.EntryLemmas.{entries_are}
use Rattle.bdb_tree.proofs.ShapeLemmas.{IsLeafPage}
use Rattle.bdb_tree.proofs.TreeLemmas.{IsChild, child_is, leaves_of_inner, leaves_of_leaf, meta_root_type, recno_internal_page, recno_leaf}
use Rattle.bdb_tree.proofs.TreeLemmas.{recno_leaf_page, tree_cases, typed_inside}
use Rattle.bdb_tree.proofs.of_format.MemberLemmas.{first_member}
use Rattle.bdb_tree.proofs.of_format.TypeLemmas.{of_type}

-- What a page is.

abbrev pub IsInternal : File → ℕ → Type 0
IsInternal file p = (page : Listed RecnoItem) × (page_at file p ≡ RecnoInternal page)

abbrev pub IsLeaf : File → ℕ → Type 0
IsLeaf file p = (page : Listed Item) × (page_at file p ≡ RecnoLeaf page)

four_or_six : (t : Option ℕ) → has_type (4 ∷ 6 ∷ []) t ≡ true → (t ≡ Some 4) ⊎ (t ≡ Some 6)
four_or_six t type = of_type (λ u. (u ≡ Some 4) ⊎ (u ≡ Some 6)) (4 ∷ 6 ∷ []) t (inl refl, (inr refl, tt)) type

-- a page of records is an internal page or a leaf
pub recno_cases : (image : List ℕ) (p : ℕ) → IsForest image → IsRecnoPage (file_of image) p → IsInternal (file_of image) p ⊎ IsLeaf (file_of image) p
recno_cases image p forest recno = grind (arith, four_or_six, recno_internal_page, recno_leaf_page)

pub recno_tree : (file : File) (p : ℕ) → IsRecnoPage file p → IsTreePage file p
recno_tree file p recno = of_type (λ t. has_type (3 ∷ 4 ∷ 5 ∷ 6 ∷ 12 ∷ []) t ≡ true) (4 ∷ 6 ∷ []) (type_in (page_at file p)) (refl, (refl, tt)) recno

pub recno_inside : (image : List ℕ) (p : ℕ) → IsRecnoPage (file_of image) p → p ≤ (file_of image).last
recno_inside image p recno = typed_inside image (4 ∷ 6 ∷ []) p recno

pub leaf_recno : (file : File) (p : ℕ) → IsRecnoLeaf file p → IsRecnoPage file p
leaf_recno file p leaf = ap (has_type (4 ∷ 6 ∷ [])) leaf

-- The root.

-- what metadata of a recno names as its root is a page of records
pub root_recno : (image : List ℕ) (meta : BtreeMeta) → IsForest image → HasMetadata (file_of image) (BtreeFields meta) → is_recno meta ≡ true
    → IsRecnoPage (file_of image) meta.root
root_recno image meta forest has recno =
    subst (λ b. has_type (cond b (4 ∷ 6 ∷ []) (3 ∷ 5 ∷ [])) (type_in (page_at (file_of image) meta.root)) ≡ true) recno
    (meta_root_type image meta forest has)

-- The pages right below a page.

-- the pages that the items of an internal page name
abbrev pub children_of : Listed RecnoItem → List ℕ
children_of page = map (λ (item : RecnoItem). item.child) page.items

pub child_of : (image : List ℕ) (p : ℕ) (page : Listed RecnoItem) (c : ℕ) → IsForest image → page_at (file_of image) p ≡ RecnoInternal page
    → Contains (children_of page) c → IsChild (file_of image) p c
child_of image p page c forest is at = child_is image p c (children_of page) forest (ap children_in is) at

below_type : (b : Bool) (t : Option ℕ) → has_type (cond b (6 ∷ []) (4 ∷ [])) t ≡ true → has_type (4 ∷ 6 ∷ []) t ≡ true
below_type true t type = of_type (λ u. has_type (4 ∷ 6 ∷ []) u ≡ true) (6 ∷ []) t (refl, tt) type
below_type false t type = of_type (λ u. has_type (4 ∷ 6 ∷ []) u ≡ true) (4 ∷ []) t (refl, tt) type

-- a child of a page of records is one too
pub child_recno : (image : List ℕ) (p : ℕ) (page : Listed RecnoItem) (c : ℕ) → IsForest image → page_at (file_of image) p ≡ RecnoInternal page
    → Contains (children_of page) c → IsRecnoPage (file_of image) c
child_recno image p page c forest is at =
    let child : IsChild (file_of image) p c = child_of image p page c forest is at in
    below_type (page.header.level == 2) (type_in (page_at (file_of image) c))
    (subst (λ q. has_type (child_types q) (type_in (page_at (file_of image) c)) ≡ true) is child.type)

-- The entries below a page.

-- each leaf below a page of records is one of records
pub leaves_recno : (image : List ℕ) (p q : ℕ) → IsForest image → IsRecnoPage (file_of image) p → Contains (leaves (file_of image) p) q
    → IsRecnoLeaf (file_of image) q
leaves_recno image p q forest recno at = recno_leaf image p q forest recno at

-- and so is one after those that were passed
pub turned_leaf : (image : List ℕ) (p : ℕ) (passed left : List ℕ) (q page : ℕ) → IsForest image → IsRecnoPage (file_of image) p
    → passed ++ (q ∷ left) ≡ leaves (file_of image) p → page ≡ q → IsRecnoLeaf (file_of image) page
turned_leaf image p passed left q page forest recno all same =
    subst (IsRecnoLeaf (file_of image)) (sym same)
    (leaves_recno image p q forest recno
    (subst (λ pages. Contains pages q) all (Contains-append_right passed (q ∷ left) q (first_member q left))))

entries_joined : (file : File) (cs : List ℕ) → entries_on file (flat_map (leaves file) cs) ≡ flat_map (tree_entries file) cs
unfolding tree_entries
entries_joined file [] = refl
entries_joined file (c ∷ cs) = grind (arith, flat_map-append, entries_joined file cs)

-- the entries below an internal page are those of its children, joined
pub entries_below : (image : List ℕ) (p : ℕ) (page : Listed RecnoItem) → IsForest image → page_at (file_of image) p ≡ RecnoInternal page
    → tree_entries (file_of image) p ≡ flat_map (tree_entries (file_of image)) (children_of page)
entries_below image p page forest is =
    entries_are (file_of image) p
    ∙ (ap (entries_on (file_of image)) (leaves_of_inner image p (children_of page) forest (ap children_in is))
    ∙ entries_joined (file_of image) (children_of page))

leaf_shape : (image : List ℕ) (p : ℕ) (page : Listed Item) → IsForest image → page_at (file_of image) p ≡ RecnoLeaf page
    → IsLeafPage (page_at (file_of image) p)
leaf_shape image p page forest is =
    elim (tree_cases image p forest (ap (λ q. has_type (3 ∷ 4 ∷ 5 ∷ 6 ∷ 12 ∷ []) (type_in q)) is)) [
      | inl inner ↦ absurd (let none : Some inner.children ≡ None = sym inner.are ∙ ap children_in is in cc)
      | inr leaf ↦ leaf
    ]

-- the entries of a leaf
pub entries_of_leaf : (image : List ℕ) (p : ℕ) (page : Listed Item) → IsForest image → page_at (file_of image) p ≡ RecnoLeaf page
    → tree_entries (file_of image) p ≡ page.items
entries_of_leaf image p page forest is = grind (arith, entries_are, leaves_of_leaf, leaf_shape, append-nil)

-- Views.

seen_internal : (view : PageView) (page : Listed RecnoItem) → page_seen view ≡ RecnoInternal page → (v : Listed RecnoItem) × (view ≡ InternalView v)
seen_internal (InternalView v) page seen = (v, refl)
seen_internal view page seen = absurd cc

seen_leaf : (view : PageView) (page : Listed Item) → page_seen view ≡ RecnoLeaf page → (v : Listed Item) × (view ≡ LeafView v)
seen_leaf (LeafView v) page seen = (v, refl)
seen_leaf view page seen = absurd cc

-- the view of a page of records is none of the others
pub no_other_view : (image : List ℕ) (p : ℕ) (view : PageView) → IsForest image → IsRecnoPage (file_of image) p
    → page_seen view ≡ page_at (file_of image) p
    → ((v : Listed RecnoItem) → view ≡ InternalView v → ⊥) → ((v : Listed Item) → view ≡ LeafView v → ⊥) → ⊥
no_other_view image p view forest recno seen internal leaf = grind (arith, recno_cases, seen_internal, seen_leaf)

-- a leaf isn't an internal page
pub leaf_no_internal : (file : File) (p : ℕ) (page : Listed RecnoItem) → IsRecnoLeaf file p → RecnoInternal page ≡ page_at file p → ⊥
leaf_no_internal file p page leaf is = let type : ◌≡◌ {A = Option ℕ} (Some 4) (Some 6) = ap type_in is ∙ leaf in absurd cc

pub leaf_inside : (image : List ℕ) (p : ℕ) → IsRecnoLeaf (file_of image) p → p ≤ (file_of image).last
leaf_inside image p leaf = recno_inside image p (leaf_recno (file_of image) p leaf)
