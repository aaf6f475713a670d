-- What the pairs of a span know of their leaves.
use Rattle.std.proofs.Common.{◌≡◌, ◌∙◌, inl, inr, ℕ, ◌≤◌, List, [], ◌∷◌, ◌++◌, take, drop, refl, sym, ap, subst, arith, Contains, flat_map}
use Rattle.std.proofs.lemmas.List.{take-append-drop}
use Rattle.std.proofs.lemmas.List.Elements.{Contains-append_left, Contains-append_right}
use Rattle.bdb_btree.specs.of_format.declared.metadata.BtreeMeta.{BtreeMeta}
use Rattle.bdb_btree.specs.of_format.Terms.{BtreeFields, File, btree_list, file_of, head_of, leaves, listed_pair, pairs_of, structure_faults, tree_pairs}
use Rattle.bdb_btree.specs.of_format.declared.metadata.Head.{Head}
use Rattle.bdb_btree.proofs.of_format.MemberLemmas.{first_member, in_flat_map, member_cases, no_member, of_flat_map}
use Rattle.bdb_btree.specs.of_image.Linked.{FitsLeafPage, HasMetadata, IsForest}
use Rattle.bdb_btree.proofs.of_graph.LinkedLemmas.{root_fits}
use Rattle.bdb_tree.specs.Trees.{IsRoot}
use Rattle.bdb_tree.proofs.LinkLemmas.{root_within}
use Rattle.bdb_tree.proofs.TreeLemmas.{leaf_fits, root_is_tree}
use Rattle.bdb_btree.specs.Pairs.{AreFit, AreLeaves, Each, FitsPair}
use Rattle.bdb_btree.specs.Search.{AreOpen}
use Rattle.bdb_btree.proofs.RowLemmas.{tree_pairs_fit}
use Rattle.bdb_btree.proofs.WalkLemmas.{are_leaves, each_of}
use Rattle.bdb_btree.proofs.of_format.FileLemmas.{last_page}
use Rattle.bdb_range.specs.Ranges.{in_range}
use Rattle.bdb_range.specs.InRange.{pairs_between}
use Rattle.bdb_range.specs.Spans.{Covers}
use Rattle.bdb_range.proofs.LeafLemmas.{is_root, suffix_leaves}
use Rattle.bdb_range.proofs.RangeLemmas.{lists_are_filtered, spans_give_ranges}

member_of_each : {X : Type 0} (P : X → Type 0) (xs : List X) (x : X) → Each P xs → Contains xs x → P x
member_of_each P [] x each at = absurd (no_member [] x refl at)
member_of_each P (y ∷ xs) x each at = elim (member_cases y xs x at) [ inl same ↦ subst P same each.0 | inr later ↦ member_of_each P xs x each.1 later ]

pub first_fits : (image : List ℕ) (meta : BtreeMeta) (from to : List ℕ) (first count : ℕ) → IsForest image → HasMetadata (file_of image) (BtreeFields meta)
    → Covers (file_of image) meta.root first count from to → FitsLeafPage (file_of image) first
first_fits image meta from to first count forest has covers =
    let file : File = file_of image in
    let is : leaves file meta.root ≡ covers.before ++ (first ∷ covers.begins.0) = covers.are ∙ ap (λ xs. covers.before ++ xs) covers.begins.1 in
    leaf_fits image meta.root first forest (root_is_tree image meta.root forest (is_root image meta forest has))
    (subst (λ xs. Contains xs first) (sym is) (Contains-append_right covers.before (first ∷ covers.begins.0) first (first_member first covers.begins.0)))

-- the walk of the leaves from the first one on
pub walk_is : (image : List ℕ) (meta : BtreeMeta) (from to : List ℕ) (first count at : ℕ) (walk : List ℕ) → IsForest image
    → HasMetadata (file_of image) (BtreeFields meta)
    → (covers : Covers (file_of image) meta.root first count from to) → at ≡ first
    → ((root : ℕ) (before after : List ℕ) → IsRoot (file_of image) root → leaves (file_of image) root ≡ before ++ (at ∷ after) → walk ≡ at ∷ after)
    → walk ≡ covers.rest
walk_is image meta from to first count at walk forest has covers same tree =
    let is : leaves (file_of image) meta.root ≡ covers.before ++ (at ∷ covers.begins.0) =
    covers.are ∙ ap (λ xs. covers.before ++ xs) (covers.begins.1 ∙ ap (λ (p : ℕ). p ∷ covers.begins.0) (sym same)) in
    tree meta.root covers.before covers.begins.0 (is_root image meta forest has) is ∙ (ap (λ (p : ℕ). p ∷ covers.begins.0) same ∙ sym covers.begins.1)

pub walk_fits : (image : List ℕ) (meta : BtreeMeta) (from to : List ℕ) (first count : ℕ) (walk : List ℕ) → IsForest image
    → HasMetadata (file_of image) (BtreeFields meta)
    → (covers : Covers (file_of image) meta.root first count from to) → walk ≡ covers.rest → AreLeaves (file_of image) walk
walk_fits image meta from to first count walk forest has covers is =
    let file : File = file_of image in
    subst (AreLeaves file) (sym is) (suffix_leaves file covers.before covers.rest
    (subst (AreLeaves file) covers.are (are_leaves image meta.root forest (is_root image meta forest has))))

pub walk_open : (image : List ℕ) (meta : BtreeMeta) (from to : List ℕ) (first count : ℕ) (walk : List ℕ) → IsForest image
    → HasMetadata (file_of image) (BtreeFields meta)
    → structure_faults (file_of image) ≡ [] → (covers : Covers (file_of image) meta.root first count from to) → walk ≡ covers.rest
    → AreOpen (file_of image) (flat_map (pairs_of (file_of image)) (take count walk))
unfolding tree_pairs
walk_open image meta from to first count walk forest has stage covers is =
    let file : File = file_of image in
    let all : AreFit file (tree_pairs file meta.root) = tree_pairs_fit image meta.root forest (root_fits image (head_of image) meta forest.formed has) in
    let inside : (q : ℕ) → Contains (take count walk) q → Contains (leaves file meta.root) q =
    λ q at.
    let in_walk : Contains walk q = subst (λ xs. Contains xs q) (take-append-drop count walk) (Contains-append_left (take count walk) (drop count walk) q at) in
    subst (λ xs. Contains xs q) (sym covers.are) (Contains-append_right covers.before covers.rest q (subst (λ xs. Contains xs q) is in_walk)) in
    record {
      stage = stage;
      fit = each_of (FitsPair file) (flat_map (pairs_of file) (take count walk)) (λ pair at.
          let found = of_flat_map (pairs_of file) (take count walk) pair at in
          member_of_each (FitsPair file) (flat_map (pairs_of file) (leaves file meta.root)) pair all
          (in_flat_map (pairs_of file) (leaves file meta.root) found.0 pair (inside found.0 found.1) found.2));
    }

pub walk_lists : (image : List ℕ) (meta : BtreeMeta) (from to : List ℕ) (first count : ℕ) (walk : List ℕ) → IsForest image
    → HasMetadata (file_of image) (BtreeFields meta)
    → (covers : Covers (file_of image) meta.root first count from to) → walk ≡ covers.rest
    → flat_map (listed_pair (file_of image)) (pairs_between from to (flat_map (pairs_of (file_of image)) (take count walk)))
    ≡ in_range (btree_list (file_of image) meta.root) from to
walk_lists image meta from to first count walk forest has covers is =
    let file : File = file_of image in
    let low : meta.root ≤ (head_of image).last = root_within image (head_of image) meta.root refl forest (is_root image meta forest has) in
    let within : meta.root ≤ file.last = omega (arith, low, last_page image) in
    sym (lists_are_filtered file meta.root from to
    ∙ ap (flat_map (listed_pair file)) (spans_give_ranges image meta.root first count from to forest within covers
    ∙ ap (λ xs. pairs_between from to (flat_map (pairs_of file) (take count xs))) (sym is)))

pub root_low : (image : List ℕ) (head : Head) (meta : BtreeMeta) → head ≡ head_of image → IsForest image → HasMetadata (file_of image) (BtreeFields meta)
    → meta.root ≤ head.last
root_low image head meta is forest has = root_within image head meta.root is forest (is_root image meta forest has)
