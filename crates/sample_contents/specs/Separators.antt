-- Btrees with internal pages: separators and counts. Source: docs/FORMAT.md, "Stage 8, contents".
use Rattle.std.specs.Prelude.{ℕ, List, [], ◌∷◌}
use Prim.Native.String.{String}
use Rattle.sample_contents.specs.Fields.{Entry, text, set, child, child_by_chain, pair, live, gone, leaf, dup_leaf, internal, btree}
use Rattle.sample_contents.specs.Chains.{five_bytes}

-- leaves 2 and 3 with these pairs, and the key between them
abbrev pub split : String → (left right : List (List Entry)) → List ℕ
split key left right = btree 0 (internal 1 2 (child 2 0 "" ∷ child 3 0 key ∷ []) ∷ leaf 2 0 3 left ∷ leaf 3 2 0 right ∷ [])

-- three leaves, and the keys of the three items of their root
abbrev pub split_in_three : (first second third : String) → (left middle right : List (List Entry)) → List ℕ
split_in_three first second third left middle right = btree 0 (
    internal 1 2 (child 2 0 first ∷ child 3 0 second ∷ child 4 0 third ∷ [])
    ∷ leaf 2 0 3 left
    ∷ leaf 3 2 4 middle
    ∷ leaf 4 3 0 right
    ∷ [])

-- pages 2 and 3 below the root, leaves 4 and 5 below page 2, leaf 6 below page 3; the key at the root, and that on page 2
abbrev pub split_twice : (outer inner : String) → (left middle right : List (List Entry)) → List ℕ
split_twice outer inner left middle right = btree 0 (
    internal 1 3 (child 2 0 "" ∷ child 3 0 outer ∷ [])
    ∷ internal 2 2 (child 4 0 "" ∷ child 5 0 inner ∷ [])
    ∷ internal 3 2 (child 6 0 "" ∷ [])
    ∷ leaf 4 0 5 left
    ∷ leaf 5 4 6 middle
    ∷ leaf 6 5 0 right
    ∷ [])

-- the key between the leaves is `abcde`, in a chain
abbrev pub split_by_chain : (left right : List (List Entry)) → List ℕ
split_by_chain left right = btree 0 (
    internal 1 2 (child 2 0 "" ∷ child_by_chain 3 0 4 5 ∷ [])
    ∷ leaf 2 0 3 left
    ∷ leaf 3 2 0 right
    ∷ five_bytes 4 1)

-- a sorted set of two leaves, and the key and the count between them
abbrev pub split_set : ℕ → String → ℕ → List ℕ
split_set flags key count = btree flags (
    leaf 1 0 0 (pair (text "a") (set 2) ∷ [])
    ∷ internal 2 2 (child 3 count "" ∷ child 4 count key ∷ [])
    ∷ dup_leaf 3 0 4 (text "1" ∷ [])
    ∷ dup_leaf 4 3 0 (text "2" ∷ [])
    ∷ [])

-- two live pairs and a deleted one below the first item, and one below the second; the counts of the items
abbrev pub counted : (flags first second : ℕ) → List ℕ
counted flags first second = btree flags (
    internal 1 2 (child 2 first "" ∷ child 3 second "d" ∷ [])
    ∷ leaf 2 0 3 (live "a" ∷ gone "b" ∷ live "c" ∷ [])
    ∷ leaf 3 2 0 (live "d" ∷ [])
    ∷ [])

-- two leaves of one pair below page 2, and one below page 3; the count at the root, and that on page 2, of their first items
abbrev pub counted_twice : (outer inner : ℕ) → List ℕ
counted_twice outer inner = btree 4 (
    internal 1 3 (child 2 outer "" ∷ child 3 1 "c" ∷ [])
    ∷ internal 2 2 (child 4 inner "" ∷ child 5 1 "b" ∷ [])
    ∷ internal 3 2 (child 6 1 "" ∷ [])
    ∷ leaf 4 0 5 (live "a" ∷ [])
    ∷ leaf 5 4 6 (live "b" ∷ [])
    ∷ leaf 6 5 0 (live "c" ∷ [])
    ∷ [])
