-- Each leaf page of a linked file is a leaf of a tree: the holders of its first references lead up to a root.
use Rattle.std.proofs.Common.{◌≡◌, ◌⊎◌, ℕ, zero, suc, ◌≤◌, Bool, true, false, ◌&&◌, ◌||◌, List, [], ◌∷◌, Option, Some, None, arith, refl, sym, ◌∙◌, ap, subst}
use Rattle.std.proofs.Common.{inl, inr, true≢false, ◌==◌, Contains}
use Rattle.std.proofs.lemmas.Bool.{cases_Bool, not-false, or_from}
use Rattle.bdb_overflow.specs.of_format.declared.kinds.Order.{Order}
use Rattle.bdb_overflow.specs.of_format.declared.metadata.FileKind.{FileKind}
use Rattle.bdb_overflow.specs.of_format.declared.metadata.FileKind.TheVariants.{Btree, Queue as QueueFile}
use Rattle.bdb_overflow.specs.of_format.declared.metadata.Head.{Head}
use Rattle.bdb_overflow.specs.of_format.declared.references.Reference.{Reference}
use Rattle.bdb_overflow.specs.of_format.declared.references.Sort.{Sort}
use Rattle.bdb_overflow.specs.of_format.declared.references.Sort.TheVariants.{Root, Child, DuplicateRoot}
use Rattle.bdb_overflow.specs.of_format.Terms.{File, Internal, Owner, Page, RecnoInternal, abstract_page, all_references, asked_by, child_types, children_in}
use Rattle.bdb_overflow.specs.of_format.Terms.{file_of, first_holder, fit_code, fit_rows, form_code, has_type, head_of, is_anchor, is_anchor_in, is_meta}
use Rattle.bdb_overflow.specs.of_format.Terms.{is_reserve, is_spare, is_zero_page, leaves, owners, page_as, page_at, page_bytes, page_type, refs, type_in}
use Rattle.bdb_overflow.specs.of_format.Terms.{type_of}
use Rattle.bdb_overflow.proofs.of_format.GraphLemmas.{IsOwner, is_owner, owner_fits, reserve_is, typed_page, zero_page}
use Rattle.bdb_overflow.proofs.of_format.MemberLemmas.{first_member, in_filter, in_flat_map, in_map, of_filter}
use Rattle.bdb_overflow.proofs.of_format.VerdictLemmas.{AllFail, none_is_first_row}
use Rattle.bdb_overflow.proofs.of_format.FileLemmas.{page_is}
use Rattle.bdb_overflow.specs.of_graph.Forest.{IsWayUp, LeadsUp, is_top}
use Rattle.bdb_overflow.specs.of_image.Linked.{FitsLeafPage, IsForest, IsTarget}
use Rattle.bdb_overflow.proofs.of_graph.ChildLemmas.{children_are, is_child, is_queue_page}
use Rattle.bdb_overflow.proofs.of_image.FirstLemmas.{formed_page}
use Rattle.bdb_overflow.proofs.of_graph.ForestLemmas.{each_page_leads_up, sound_graph}
use Rattle.bdb_overflow.proofs.of_image.HeldLemmas.{own_type}
use Rattle.bdb_tree.specs.Trees.{IsRoot, IsTreePage}
use Rattle.bdb_tree.proofs.ShapeLemmas.{IsLeafPage, is_tree_in, no_queue}
use Rattle.bdb_tree.proofs.TreeLemmas.{inner_type, leaf_is_tree, leaves_of_inner, leaves_of_leaf, tree_cases, tree_inside, tree_is}

-- A page of a tree is neither an anchor nor a reserve.

plain : (page : Page) → is_tree_in page ≡ true → (is_queue_page page ≡ false) × (is_meta page ≡ false) × (is_spare page ≡ false)
plain (Internal page) is = (refl, refl, refl)
plain page is = (cc, cc, cc)

pub no_anchor_in : (kind : FileKind) (page : Page) → (kind ≡ QueueFile → ⊥) → is_meta page ≡ false → is_anchor_in kind page ≡ false
no_anchor_in QueueFile page other none = absurd (other refl)
no_anchor_in kind page other none = none

no_anchor : (image : List ℕ) (p : ℕ) → IsForest image → p ≤ (file_of image).last → is_tree_in (page_at (file_of image) p) ≡ true
    → is_anchor (file_of image) p ≡ false
unfolding is_anchor
no_anchor image p forest low is =
    let file : File = file_of image in
    no_anchor_in file.kind (page_at file p) (no_queue image (head_of image) p forest.formed low (plain (page_at file p) is).0)
    (plain (page_at file p) is).1

no_reserve : (file : File) (p : ℕ) → is_tree_in (page_at file p) ≡ true → is_reserve file p ≡ false
no_reserve file p is =
    elim (cases_Bool (is_reserve file p)) [
      | inl reserve ↦ absurd (true≢false (sym (reserve_is file p reserve).spare ∙ (plain (page_at file p) is).2))
      | inr other ↦ other
    ]

no_top : (image : List ℕ) (p : ℕ) → IsForest image → IsTreePage (file_of image) p → is_top (file_of image) p ≡ true → ⊥
no_top image p forest tree top = grind (arith, is_tree_in, tree_is, tree_inside, or_from, no_anchor, no_reserve)

-- What names a page of a tree.

abbrev is_of : List ℕ → Bool → Page → Bool
is_of types zeros page = has_type types (type_in page) || (zeros && is_zero_page page)

-- a page of a tree is named as a root or as a child
abbrev IsNamedAs : Sort → Type 0
IsNamedAs sort = (sort ≡ Root) ⊎ ((sort ≡ DuplicateRoot) ⊎ (sort ≡ Child))

named_as : (holder : ℕ) (page target : Page) (sort : Sort) → is_tree_in target ≡ true
    → is_of (asked_by holder page sort).types (asked_by holder page sort).or_zero target ≡ true → IsNamedAs sort
named_as holder page target Root is asks = inl refl
named_as holder page target DuplicateRoot is asks = inr (inl refl)
named_as holder page target Child is asks = inr (inr refl)
named_as holder page (Internal target) sort is asks = absurd cc
named_as holder page target sort is asks = absurd cc

-- what is asked of the target of a reference that fits
asked : (file : File) (p : ℕ) (reference : Reference) → fit_code file p reference ≡ None
    → is_of (asked_by p (page_at file p) reference.sort).types (asked_by p (page_at file p) reference.sort).or_zero (page_at file reference.target)
    ≡ true
unfolding fit_code
asked file p reference fits =
    let rows = fit_rows file (asked_by p (page_at file p) reference.sort) reference.target in
    let fail : AllFail rows = none_is_first_row rows fits in
    not-false _ fail.1.0

owner_of : (os : List Owner) (h : ℕ) → first_holder os ≡ Some h → (owner : Owner) × Contains os owner × (owner.holder ≡ h)
owner_of [] h some = absurd cc
owner_of (owner ∷ os) h some = (owner, first_member owner os, cc)

target_of : (file : File) (p : ℕ) (owner : Owner) (sort : Sort) → Contains (owners file p) owner → owner.reference.sort ≡ sort → IsTarget file sort p
unfolding owners
target_of file p owner sort at is =
    let passed : Contains (all_references file) owner × ((owner.reference.target == p) ≡ true) =
    of_filter (λ (o : Owner). o.reference.target == p) (all_references file) owner at in
    record { owner = owner; held = passed.0; sort_is = is; target_is = (is_owner file p owner at).names }

-- Up to a root.

-- a page whose leaves are leaves of a tree
pub record InTree (file : File) (p : ℕ) : Type 0 where
  pub root : ℕ
  pub is : IsRoot file root
  pub all : (x : ℕ) → Contains (leaves file p) x → Contains (leaves file root) x

root_itself : (file : File) (p : ℕ) → IsRoot file p → InTree file p
root_itself file p is = record { root = p; is = is; all = λ x at. at }

nothing : (type : Option ℕ) → (has_type [] type || false) ≡ true → ⊥
nothing None is = cc
nothing (Some t) is = cc

-- the holder of a reference to a child is an internal page
some_children : (page target : Page) → is_of (child_types page) false target ≡ true → (cs : List ℕ) × (children_in page ≡ Some cs)
some_children (Internal page) target is = (_, refl)
some_children (RecnoInternal page) target is = (_, refl)
some_children page target is = absurd (nothing (type_in target) is)

-- the holder of a reference to a child has the leaves of the child
record IsParent (file : File) (h p : ℕ) : Type 0 where
  tree : IsTreePage file h
  all : (x : ℕ) → Contains (leaves file p) x → Contains (leaves file h) x

parent : (image : List ℕ) (h : ℕ) (reference : Reference) → IsForest image → h ≤ (file_of image).last → Contains (refs (file_of image) h) reference
    → reference.sort ≡ Child → fit_code (file_of image) h reference ≡ None
    → IsParent (file_of image) h reference.target
parent image h reference forest low held child none =
    let file : File = file_of image in
    let target : Page = page_at file reference.target in
    let inner : (cs : List ℕ) × (children_in (page_at file h) ≡ Some cs) =
    some_children (page_at file h) target
    (subst (λ s. is_of (asked_by h (page_at file h) s).types (asked_by h (page_at file h) s).or_zero target ≡ true) child
    (asked file h reference none)) in
    let at : Contains inner.0 reference.target =
    subst (λ cs. Contains cs reference.target) (children_are image h inner.0 forest low inner.1)
    (in_map (λ (r : Reference). r.target) _ reference
    (in_filter (λ (r : Reference). is_child r.sort) (refs file h) reference held (ap is_child child))) in
    record {
      tree = inner_type (page_at file h) inner.0 inner.1;
      all = λ x in_child. subst (λ xs. Contains xs x) (sym (leaves_of_inner image h inner.0 forest inner.1))
          (in_flat_map (leaves file) inner.0 reference.target x at in_child);
    }

up : (image : List ℕ) (p : ℕ) (hs : List ℕ) → IsForest image → IsTreePage (file_of image) p → IsWayUp (file_of image) p hs → InTree (file_of image) p
up image p [] forest tree way = absurd (no_top image p forest tree way)
up image p (h ∷ hs) forest tree way =
    let file : File = file_of image in
    let found = owner_of (owners file p) h way.0 in
    let owner : Owner = found.0 in
    let reference : Reference = owner.reference in
    let is : IsOwner file p owner = is_owner file p owner found.1 in
    let none : fit_code file owner.holder reference ≡ None = owner_fits file p owner (sound_graph image forest.linked).references found.1 in
    let target : is_tree_in (page_at file reference.target) ≡ true = ap (λ q. is_tree_in (page_at file q)) is.names ∙ tree_is image p forest tree in
    elim (named_as owner.holder (page_at file owner.holder) (page_at file reference.target) reference.sort target
    (asked file owner.holder reference none)) [
      | inl root ↦ root_itself file p (inl (target_of file p owner Root found.1 root))
      | inr (inl set) ↦ root_itself file p (inr (target_of file p owner DuplicateRoot found.1 set))
      | inr (inr child) ↦
          let above : IsParent file h p =
          subst (λ q. IsParent file h q) is.names (subst (λ k. IsParent file k reference.target) found.2
          (parent image owner.holder reference forest is.inside is.held child none)) in
          let rest : InTree file h = up image h hs forest above.tree way.1 in
          record { root = rest.root; is = rest.is; all = λ x at. rest.all x (above.all x at) }
    ]

-- Page 0.

no_tree_type : (kind : FileKind) (order : Order) (page : List ℕ) (byte : ℕ) → byte ≡ type_of kind
    → is_tree_in (page_as order page (page_type byte)) ≡ false
no_tree_type Btree order page byte is = ap (λ b. is_tree_in (page_as order page (page_type b))) is
no_tree_type kind order page byte is = ap (λ b. is_tree_in (page_as order page (page_type b))) is

no_tree_page : (head : Head) (page : List ℕ) → form_code head 0 page ≡ None → is_tree_in (abstract_page head.order page) ≡ false
no_tree_page head page none = grind (arith, cases_Bool, is_tree_in, zero_page, typed_page, no_tree_type, own_type)

-- page 0 is metadata, no page of a tree
pub tree_above : (image : List ℕ) (p : ℕ) → IsForest image → IsTreePage (file_of image) p → 1 ≤ p
tree_above image zero forest tree =
    let none : form_code (head_of image) 0 (page_bytes (head_of image) image 0) ≡ None = formed_page image 0 forest.formed.form (omega arith) in
    absurd (true≢false (sym (tree_is image 0 forest tree)
    ∙ (ap is_tree_in (page_is image 0 (omega arith)) ∙ no_tree_page (head_of image) (page_bytes (head_of image) image 0) none)))
tree_above image (suc n) forest tree = omega arith

pub leaf_above : (image : List ℕ) (p : ℕ) → IsForest image → FitsLeafPage (file_of image) p → 1 ≤ p
leaf_above image p forest leaf = tree_above image p forest (leaf_is_tree (file_of image) p leaf)

-- A leaf page.

inner_no_leaf : (page : Page) (cs : List ℕ) → children_in page ≡ Some cs → has_type (5 ∷ 6 ∷ 12 ∷ []) (type_in page) ≡ true → ⊥
inner_no_leaf (Internal page) cs are leaf = cc
inner_no_leaf page cs are leaf = cc

pub leaf_is : (image : List ℕ) (p : ℕ) → IsForest image → FitsLeafPage (file_of image) p → IsLeafPage (page_at (file_of image) p)
leaf_is image p forest leaf =
    elim (tree_cases image p forest (leaf_is_tree (file_of image) p leaf)) [
      | inl inner ↦ absurd (inner_no_leaf (page_at (file_of image) p) inner.children inner.are leaf)
      | inr is ↦ is
    ]

-- a leaf page is a leaf of a tree
pub record Belongs (file : File) (p : ℕ) : Type 0 where
  pub root : ℕ
  pub is : IsRoot file root
  pub at : Contains (leaves file root) p

pub belongs : (image : List ℕ) (p : ℕ) → IsForest image → FitsLeafPage (file_of image) p → Belongs (file_of image) p
belongs image p forest leaf =
    let file : File = file_of image in
    let tree : IsTreePage file p = leaf_is_tree file p leaf in
    let way : LeadsUp file p = each_page_leads_up image p forest.linked (tree_above image p forest tree) (tree_inside image p tree) in
    let in_tree : InTree file p = up image p way.holders forest tree way.way in
    record {
      root = in_tree.root;
      is = in_tree.is;
      at = in_tree.all p (subst (λ xs. Contains xs p) (sym (leaves_of_leaf file p (leaf_is image p forest leaf))) (first_member p []));
    }
