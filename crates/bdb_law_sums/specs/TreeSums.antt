-- Sums over leaves: over all pages, and over the trees that hold them. Source: docs/FORMAT.md, "References".
use Rattle.std.specs.Prelude.{◌≡◌, ◌≤◌, IsTrue, ℕ, ◌+◌, if◌then◌else◌, List, [], ◌∷◌}
use Rattle.std.specs.List.{range_with_len, sum_by}
use Rattle.bdb_tree.specs.of_format.Terms.{File, Owner, file_of, has_type, leaves, page_at, root_references, type_in}
use Rattle.bdb_tree.specs.of_image.Linked.{IsForest}
use Rattle.bdb_law_sums.specs.Counting.{times}

-- what a leaf weighs; another page weighs nothing
abbrev pub leaf_weight : File → (ℕ → ℕ) → ℕ → ℕ
leaf_weight file weight p = if has_type (5 ∷ 6 ∷ 12 ∷ []) (type_in (page_at file p)) then weight p else 0

-- what the leaves of a tree weigh
abbrev pub weight_below : File → (ℕ → ℕ) → ℕ → ℕ
weight_below file weight root = sum_by weight (leaves file root)

-- Each leaf stands in one tree, once: whatever leaves weigh, all leaves of a file weigh what those of all its trees do.
abbrev pub LeavesAreOfTrees : Type 0
LeavesAreOfTrees =
    (image : List ℕ) (weight : ℕ → ℕ) → IsForest image
    → sum_by (leaf_weight (file_of image) weight) (range_with_len 0 ((file_of image).last + 1))
    ≡ sum_by (λ (owner : Owner). weight_below (file_of image) weight owner.reference.target) (root_references (file_of image))

-- each leaf stands once among the leaves of all trees: so the leaves of a set off the page are those of no database
abbrev pub EachLeafIsInOneTree : Type 0
EachLeafIsInOneTree =
    (image : List ℕ) (q : ℕ) → IsForest image → q ≤ (file_of image).last → IsTrue (has_type (5 ∷ 6 ∷ 12 ∷ []) (type_in (page_at (file_of image) q)))
    → sum_by (λ (owner : Owner). times q (leaves (file_of image) owner.reference.target)) (root_references (file_of image)) ≡ 1
