-- Pages of a tree of pairs: the items of an internal page lead one level down, and another page is a leaf.
use Rattle.std.proofs.Common.{arith, ◌≡◌, ℕ, ◌+◌, ◌≤◌, Bool, true, List, map, refl, Some, ◌∷◌, ◌++◌, [], sym, ◌∙◌, ap, subst, inl, inr, append-nil, Contains}
use Rattle.std.proofs.Common.{flat_map, slice_get}
use Rattle.bdb_faults.specs.Notes.{NotesAll}
use Rattle.bdb_ranks.specs.of_format.declared.rows.ContentsRow.{ContentsRow}
use Rattle.bdb_faults.proofs.SinkLemmas.{notes_none}
use Rattle.bdb_ranks.specs.of_form.declared.view.PageView.{PageView}
use Rattle.bdb_ranks.specs.of_form.declared.view.PageView.TheVariants.{Internal as InternalSeen}
use Rattle.bdb_ranks.specs.of_form.Seen.{page_seen}
use Rattle.bdb_ranks.specs.of_format.declared.kinds.Fault.{Fault}
use Rattle.bdb_ranks.specs.of_format.Terms.{File, Internal, InternalItem, Listed, children_in, file_of, has_type, header_in, inner_pages, leaves, page_at}
use Rattle.bdb_ranks.specs.of_format.Terms.{pairs_of, tree_pairs, type_in}
use Rattle.bdb_ranks.proofs.of_format.ListLemmas.{flat_map_twice, member_of}
use Rattle.bdb_ranks.proofs.of_format.MemberLemmas.{in_map}
use Rattle.bdb_ranks.proofs.of_format.TypeLemmas.{of_type}
use Rattle.bdb_ranks.specs.of_image.Linked.{FitsLeafPage, IsForest}
use Rattle.bdb_ranks.specs.of_overflow.Datum.{FitsContent}
use Rattle.bdb_ranks.proofs.of_overflow.ContentLemmas.{key_fits}
use Rattle.bdb_btree.specs.Bounds.{OrderedIf}
use Rattle.bdb_btree.specs.Counts.{IsKeyed}
use Rattle.bdb_btree.specs.Noted.{faults_at}
use Rattle.bdb_ranks.proofs.of_tree.BelongLemmas.{leaf_is}
use Rattle.bdb_ranks.proofs.of_tree.InnerLemmas.{no_inner}
use Rattle.bdb_btree.proofs.FallLemmas.{child_ordered}
use Rattle.bdb_btree.proofs.FindLemmas.{keyed_inner}
use Rattle.bdb_btree.proofs.InnerLemmas.{child_keyed}
use Rattle.bdb_ranks.specs.of_tree.Trees.{IsTreePage}
use Rattle.bdb_ranks.proofs.of_tree.TreeLemmas.{child_is, leaves_of_inner, leaves_of_leaf, tree_cases, typed_inside}

abbrev pub level : File → ℕ → ℕ
level file p = (header_in (page_at file p)).level

pub keyed_is_tree : (file : File) (p : ℕ) → IsKeyed file p → IsTreePage file p
keyed_is_tree file p keyed =
    of_type (λ type. has_type (3 ∷ 4 ∷ 5 ∷ 6 ∷ 12 ∷ []) type ≡ true) (3 ∷ 5 ∷ 12 ∷ []) (type_in (page_at file p)) (refl, (refl, (refl, tt))) keyed

pub keyed_inside : (image : List ℕ) (p : ℕ) → IsKeyed (file_of image) p → p ≤ (file_of image).last
keyed_inside image p keyed = typed_inside image (3 ∷ 5 ∷ 12 ∷ []) p keyed

-- Leaves.

seen_inner : (view : PageView) (page : Listed InternalItem) → page_seen view ≡ Internal page → (v : Listed InternalItem) × (view ≡ InternalSeen v)
seen_inner (InternalSeen v) page seen = (v, refl)
seen_inner view page seen = absurd cc

-- a page that is no internal one is a leaf
pub keyed_leaf : (image : List ℕ) (p : ℕ) (view : PageView) → IsForest image → IsKeyed (file_of image) p → page_seen view ≡ page_at (file_of image) p
    → ((page : Listed InternalItem) → view ≡ InternalSeen page → ⊥) → FitsLeafPage (file_of image) p
keyed_leaf image p view forest keyed seen other =
    elim (tree_cases image p forest (keyed_is_tree (file_of image) p keyed)) [
      | inr leaf ↦ leaf.type
      | inl inner ↦
          let page = keyed_inner (page_at (file_of image) p) inner.children inner.are keyed in
          let is = seen_inner view page.0 (seen ∙ page.1) in
          absurd (other is.0 is.1)
    ]

-- the pairs of a leaf
pub leaf_tree : (image : List ℕ) (p : ℕ) → IsForest image → FitsLeafPage (file_of image) p → tree_pairs (file_of image) p ≡ pairs_of (file_of image) p
unfolding tree_pairs
leaf_tree image p forest leaf = grind (arith, leaves_of_leaf, leaf_is, append-nil)

-- no internal page stands at or below a leaf
pub leaf_noted : (has : List Fault → Type 0) (image : List ℕ) (p : ℕ) (row : ContentsRow) (test : ℕ → Bool) → IsForest image
    → FitsLeafPage (file_of image) p → NotesAll has has (faults_at row test (inner_pages (file_of image) p))
leaf_noted has image p row test forest leaf =
    subst (λ ps. NotesAll has has (faults_at row test ps)) (sym (no_inner (file_of image) p (leaf_is image p forest leaf).none)) (notes_none has)

-- Items.

-- what an item leads to is a page of the same tree, one level below
pub record LeadsTo (file : File) (ordered : Bool) (p : ℕ) (item : InternalItem) : Type 0 where
  pub key : FitsContent file item.key
  pub keyed : IsKeyed file item.child
  pub order : OrderedIf ordered file item.child
  pub level : level file item.child + 1 ≡ level file p

pub keyed_child : (image : List ℕ) (p : ℕ) (page : Listed InternalItem) (item : InternalItem) → IsForest image → IsKeyed (file_of image) p
    → page_at (file_of image) p ≡ Internal page → Contains page.items item
    → IsKeyed (file_of image) item.child × (level (file_of image) item.child + 1 ≡ level (file_of image) p)
keyed_child image p page item forest keyed is at =
    let children : List ℕ = map (λ (it : InternalItem). it.child) page.items in
    let child : Contains children item.child = in_map (λ (it : InternalItem). it.child) page.items item at in (
      child_keyed image p item.child children forest keyed (ap children_in is) child,
      (child_is image p item.child children forest (ap children_in is) child).level,
    )

pub leads_to : (image : List ℕ) (ordered : Bool) (p : ℕ) (page : Listed InternalItem) (i : ℕ) (item : InternalItem) → IsForest image
    → IsKeyed (file_of image) p → OrderedIf ordered (file_of image) p → page_at (file_of image) p ≡ Internal page
    → slice_get page.items i ≡ Some item → LeadsTo (file_of image) ordered p item
leads_to image ordered p page i item forest keyed order is at =
    let member : Contains page.items item = member_of page.items i item at in
    let child = keyed_child image p page item forest keyed is member in
    record {
      key = key_fits image p page i item forest (keyed_inside image p keyed) is at;
      keyed = child.0;
      order =
          child_ordered image ordered p item.child (map (λ (it : InternalItem). it.child) page.items) forest order (ap children_in is)
          (in_map (λ (it : InternalItem). it.child) page.items item member);
      level = child.1;
    }

-- the pairs below the items of an internal page, joined
pub pairs_joined : (image : List ℕ) (p : ℕ) (page : Listed InternalItem) → IsForest image → page_at (file_of image) p ≡ Internal page
    → tree_pairs (file_of image) p ≡ flat_map (λ (item : InternalItem). tree_pairs (file_of image) item.child) page.items
unfolding tree_pairs
pairs_joined image p page forest is =
    let file : File = file_of image in
    ap (flat_map (pairs_of file)) (leaves_of_inner image p (map (λ (it : InternalItem). it.child) page.items) forest (ap children_in is))
    ∙ (flat_map_twice (pairs_of file) (leaves file) (map (λ (it : InternalItem). it.child) page.items) ∙ mapped page.items)
  where
    mapped : (items : List InternalItem) → flat_map (λ c. flat_map (pairs_of (file_of image)) (leaves (file_of image) c))
        (map (λ (it : InternalItem). it.child) items)
        ≡ flat_map (λ (item : InternalItem). flat_map (pairs_of (file_of image)) (leaves (file_of image) item.child)) items
    mapped [] = refl
    mapped (item ∷ items) = ap (λ ps. flat_map (pairs_of (file_of image)) (leaves (file_of image) item.child) ++ ps) (mapped items)
