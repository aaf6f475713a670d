-- The pairs of a tree between two keys, and the leaves that hold them. Source: docs/FORMAT.md, "Ranges".
use Rattle.std.specs.Prelude.{ℕ, ◌==◌, Bool, List, length}
use Rattle.std.specs.List.{filter, list_any}
use Rattle.bdb_btree.specs.of_format.Terms.{File, StoredPair, leaves, pairs_of}
use Rattle.bdb_range.specs.Ranges.{lies_between}

-- the pairs with a key in the range, deleted ones too
abbrev pub pairs_between : List ℕ → List ℕ → List StoredPair → List StoredPair
pairs_between from to pairs = filter (λ (pair : StoredPair). lies_between from to pair.key) pairs

-- a leaf holds a pair, live or deleted, with a key in the range
abbrev pub holds_between : File → List ℕ → List ℕ → ℕ → Bool
holds_between file from to p = list_any (λ (pair : StoredPair). lies_between from to pair.key) (pairs_of file p)

-- a leaf has no pairs
abbrev pub is_empty : File → ℕ → Bool
is_empty file p = length (pairs_of file p) == 0

-- how many leaves of a tree do, and how many have none
unfoldable pub holding_leaves : File → ℕ → List ℕ → List ℕ → ℕ
holding_leaves file root from to = length (filter (holds_between file from to) (leaves file root))

unfoldable pub empty_leaves : File → ℕ → ℕ
empty_leaves file root = length (filter (is_empty file) (leaves file root))
