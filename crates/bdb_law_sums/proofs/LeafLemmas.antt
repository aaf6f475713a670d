-- The types of leaves of databases and of sets off the page.
use Rattle.std.proofs.Common.{◌≡◌, ℕ, zero, suc, ◌+◌, ◌≤◌, Bool, true, false, cond, List, [], ◌∷◌, arith, refl, ap, subst, inl, inr, ◌==◌, ◌&&◌, Some, Contains}
use Rattle.std.proofs.lemmas.Bool.{eq-eqb}
use Rattle.bdb_tree.specs.of_format.declared.metadata.BtreeMeta.{BtreeMeta}
use Rattle.bdb_tree.specs.of_format.declared.references.Sort.{Sort}
use Rattle.bdb_tree.specs.of_format.declared.references.Sort.TheVariants.{Root, DuplicateRoot}
use Rattle.bdb_tree.specs.of_format.Terms.{BtreeFields, DupLeaf, File, Hash, Leaf, LeafPlace, Page, RecnoLeaf, child_types, entries_in, file_of, has_type}
use Rattle.bdb_tree.specs.of_format.Terms.{head_of, is_recno, is_root_reference, is_wrong_leaf, leaf_places, leaves, page_at, pairs_in, pairs_of, places_from}
use Rattle.bdb_tree.specs.of_format.Terms.{structure_faults, structure_rows, type_in, wrong_leaf_types}
use Rattle.bdb_tree.proofs.of_format.BoolLemmas.{second_false}
use Rattle.bdb_tree.proofs.of_format.ListLemmas.{only_member}
use Rattle.bdb_tree.proofs.of_format.MemberLemmas.{first_member, later_member, member_cases, no_member, none_passes, of_flat_map}
use Rattle.bdb_tree.proofs.of_format.TypeLemmas.{keyed_below, of_type, tree_keyed}
use Rattle.bdb_tree.proofs.of_format.VerdictLemmas.{AllFail, no_rows_at}
use Rattle.bdb_tree.specs.of_image.Linked.{FitsDupRoot, FitsLeafPage, HasMetadata, IsForest, IsTarget}
use Rattle.bdb_tree.proofs.of_graph.LinkedLemmas.{root_fits}
use Rattle.bdb_tree.specs.Trees.{IsTreePage}
use Rattle.bdb_tree.proofs.ShapeLemmas.{is_tree_in}
use Rattle.bdb_tree.proofs.TreeLemmas.{HasTypeAt, IsChild, child_is, leaf_fits, leaf_is_tree, leaf_low, leaves_of_inner, leaves_of_leaf, level}
use Rattle.bdb_tree.proofs.TreeLemmas.{meta_root_type, place_of_root}
use Rattle.bdb_tree.proofs.TreeLemmas.{recno_leaf, root_is_tree, tree_cases, tree_is, tree_level}
use Rattle.bdb_law_sums.specs.Databases.{IsSoundForest}

-- The place of a leaf.

record HasPlace (places : List LeafPlace) (sort : Sort) (q : ℕ) : Type 0 where
  place : LeafPlace
  at : Contains places place
  leaf : place.leaf ≡ q
  tree : place.tree ≡ sort

place_at : (sort : Sort) (before : ℕ) (ps : List ℕ) (q : ℕ) → Contains ps q → HasPlace (places_from sort before ps) sort q
place_at sort before [] q at = absurd (no_member [] q refl at)
place_at sort before (p ∷ ps) q at =
    elim (member_cases p ps q at) [
      | inl same ↦ record { place = _; at = first_member _ (places_from sort p ps); leaf = same; tree = refl }
      | inr later ↦
          let rest : HasPlace (places_from sort p ps) sort q = place_at sort p ps q later in
          record { place = rest.place; at = later_member _ (places_from sort p ps) rest.place rest.at; leaf = rest.leaf; tree = rest.tree }
    ]

kind_is_right : (file : File) (place : LeafPlace) → structure_faults file ≡ [] → place.leaf ≤ file.last → Contains (leaf_places file) place
    → is_wrong_leaf file place ≡ false
unfolding structure_faults
kind_is_right file place none low at =
    let p : ℕ = place.leaf in
    let fail : AllFail (structure_rows file p) = no_rows_at 6 0 (file.last + 1) p (structure_rows file) none (omega arith) (omega arith) in
    second_false (p == p) (is_wrong_leaf file place) (eq-eqb p p refl)
    (none_passes (λ (other : LeafPlace). other.leaf == p && is_wrong_leaf file other) (leaf_places file) place fail.1.0 at)

-- a leaf of a tree hasn't the type that the reference to the root forbids
leaf_kind : (image : List ℕ) (sort : Sort) (root q : ℕ) → IsSoundForest image → is_root_reference sort ≡ true → IsTarget (file_of image) sort root
    → q ≤ (file_of image).last → Contains (leaves (file_of image) root) q → has_type (wrong_leaf_types sort) (type_in (page_at (file_of image) q))
    ≡ false
leaf_kind image sort root q sound is target low at =
    let file : File = file_of image in
    let has : HasPlace (places_from sort 0 (leaves file root)) sort q = place_at sort 0 (leaves file root) q at in
    let right : is_wrong_leaf file has.place ≡ false =
    kind_is_right file has.place sound.structure (omega (arith, low, has.leaf)) (place_of_root file sort root has.place is target has.at) in
    subst (λ s. has_type (wrong_leaf_types s) (type_in (page_at file q)) ≡ false) has.tree
    (subst (λ p. has_type (wrong_leaf_types has.place.tree) (type_in (page_at file p)) ≡ false) has.leaf right)

-- Sets off the page.

-- a leaf of a set is a leaf
pub set_leaf_fits : (image : List ℕ) (root q : ℕ) → IsForest image → FitsDupRoot (file_of image) root → Contains (leaves (file_of image) root) q
    → FitsLeafPage (file_of image) q
set_leaf_fits image root q forest is at = leaf_fits image root q forest (root_is_tree image root forest (inr is)) at

no_pairs : (file : File) (p : ℕ) (page : Page) → is_tree_in page ≡ true → has_type (5 ∷ []) (type_in page) ≡ false → pairs_in file p page ≡ []
no_pairs file p (Leaf page) tree other = absurd cc
no_pairs file p (Hash page) tree other = absurd cc
no_pairs file p page tree other = refl

-- a leaf of another type than 5 has no pairs
no_pairs_on : (image : List ℕ) (p : ℕ) → IsForest image → FitsLeafPage (file_of image) p → has_type (5 ∷ []) (type_in (page_at (file_of image) p))
    ≡ false
    → pairs_of (file_of image) p ≡ []
unfolding pairs_of
no_pairs_on image p forest leaf other =
    let file : File = file_of image in
    no_pairs file p (page_at file p) (tree_is image p forest (leaf_is_tree file p leaf)) other

-- nor has a leaf of a set
pub no_pairs_in_set : (image : List ℕ) (root q : ℕ) → IsSoundForest image → FitsDupRoot (file_of image) root
    → Contains (leaves (file_of image) root) q
    → pairs_of (file_of image) q ≡ []
no_pairs_in_set image root q sound is at =
    let tree : IsTreePage (file_of image) root = root_is_tree image root sound.forest (inr is) in
    no_pairs_on image q sound.forest (set_leaf_fits image root q sound.forest is at)
    (leaf_kind image DuplicateRoot root q sound refl is (leaf_low image root q sound.forest tree at) at)

-- Databases.

-- a leaf below a page of keys has keys
pub keyed_leaf : (levels : ℕ) (image : List ℕ) (p q : ℕ) → IsForest image → level (file_of image) p ≡ levels
    → HasTypeAt (file_of image) (3 ∷ 5 ∷ 12 ∷ []) p
    → Contains (leaves (file_of image) p) q → HasTypeAt (file_of image) (3 ∷ 5 ∷ 12 ∷ []) q
keyed_leaf zero image p q forest is keyed at =
    absurd (omega (arith, is, tree_level image p forest (tree_keyed (type_in (page_at (file_of image) p)) keyed)))
keyed_leaf (suc n) image p q forest is keyed at =
    let file : File = file_of image in
    elim (tree_cases image p forest (tree_keyed (type_in (page_at file p)) keyed)) [
      | inr leaf ↦ subst (HasTypeAt file (3 ∷ 5 ∷ 12 ∷ [])) (only_member p q (subst (λ ps. Contains ps q) (leaves_of_leaf file p leaf) at)) keyed
      | inl inner ↦
          let under = subst (λ ps. Contains ps q) (leaves_of_inner image p inner.children forest inner.are) at in
          let found = of_flat_map (leaves file) inner.children q under in
          let child : IsChild file p found.0 = child_is image p found.0 inner.children forest inner.are found.1 in
          keyed_leaf n image found.0 q forest (omega (arith, child.level, is))
          (of_type (λ type. has_type (3 ∷ 5 ∷ 12 ∷ []) type ≡ true) (child_types (page_at file p)) (type_in (page_at file found.0))
          (keyed_below (page_at file p) inner.children keyed inner.are) child.type) found.2
    ]

root_type : (image : List ℕ) (meta : BtreeMeta) (b : Bool) → IsForest image → HasMetadata (file_of image) (BtreeFields meta) → is_recno meta ≡ b
    → HasTypeAt (file_of image) (cond b (4 ∷ 6 ∷ []) (3 ∷ 5 ∷ [])) meta.root
root_type image meta b forest has is =
    subst (λ b. HasTypeAt (file_of image) (cond b (4 ∷ 6 ∷ []) (3 ∷ 5 ∷ [])) meta.root) is (meta_root_type image meta forest has)

-- a leaf of a recno has records
pub recno_leaf_type : (image : List ℕ) (meta : BtreeMeta) (q : ℕ) → IsForest image → HasMetadata (file_of image) (BtreeFields meta) → is_recno meta
    ≡ true
    → Contains (leaves (file_of image) meta.root) q → type_in (page_at (file_of image) q) ≡ Some 6
recno_leaf_type image meta q forest has is at = recno_leaf image meta.root q forest (root_type image meta true forest has is) at

-- and no pairs
pub no_pairs_in_recno : (image : List ℕ) (meta : BtreeMeta) (q : ℕ) → IsForest image → HasMetadata (file_of image) (BtreeFields meta)
    → is_recno meta ≡ true
    → Contains (leaves (file_of image) meta.root) q → pairs_of (file_of image) q ≡ []
no_pairs_in_recno image meta q forest has is at =
    let file : File = file_of image in
    let tree : IsTreePage file meta.root = root_is_tree image meta.root forest (inl (root_fits image (head_of image) meta forest.formed has)) in
    no_pairs_on image q forest (leaf_fits image meta.root q forest tree at) (ap (has_type (5 ∷ [])) (recno_leaf_type image meta q forest has is at))

-- one of a btree has pairs
pub btree_leaf_type : (image : List ℕ) (meta : BtreeMeta) (q : ℕ) → IsSoundForest image → HasMetadata (file_of image) (BtreeFields meta)
    → is_recno meta ≡ false
    → Contains (leaves (file_of image) meta.root) q → type_in (page_at (file_of image) q) ≡ Some 5
btree_leaf_type image meta q sound has is at =
    let file : File = file_of image in
    let target : IsTarget file Root meta.root = root_fits image (head_of image) meta sound.forest.formed has in
    let tree : IsTreePage file meta.root = root_is_tree image meta.root sound.forest (inl target) in
    let keyed : HasTypeAt file (3 ∷ 5 ∷ 12 ∷ []) meta.root =
    of_type (λ type. has_type (3 ∷ 5 ∷ 12 ∷ []) type ≡ true) (3 ∷ 5 ∷ []) (type_in (page_at file meta.root)) (refl, (refl, tt))
    (root_type image meta false sound.forest has is) in
    let here : HasTypeAt file (3 ∷ 5 ∷ 12 ∷ []) q = keyed_leaf (level file meta.root) image meta.root q sound.forest refl keyed at in
    let right = leaf_kind image Root meta.root q sound refl target (leaf_low image meta.root q sound.forest tree at) at in
    of_type (λ type. has_type (3 ∷ 5 ∷ 12 ∷ []) type ≡ true → has_type (12 ∷ []) type ≡ false → type ≡ Some 5) (5 ∷ 6 ∷ 12 ∷ [])
    (type_in (page_at file q))
    (λ keyed other. refl, (λ keyed other. absurd cc, (λ keyed other. absurd cc, tt)))
    (leaf_fits image meta.root q sound.forest tree at) here right

no_entries : (page : Page) → type_in page ≡ Some 5 → entries_in page ≡ []
no_entries (RecnoLeaf page) is = absurd cc
no_entries (DupLeaf page) is = absurd cc
no_entries page is = refl

-- so it has no records
pub no_records_in_btree : (image : List ℕ) (meta : BtreeMeta) (q : ℕ) → IsSoundForest image → HasMetadata (file_of image) (BtreeFields meta)
    → is_recno meta ≡ false
    → Contains (leaves (file_of image) meta.root) q → entries_in (page_at (file_of image) q) ≡ []
no_records_in_btree image meta q sound has is at = no_entries (page_at (file_of image) q) (btree_leaf_type image meta q sound has is at)
