-- Files whose leaves have links and types that are given. Source: docs/FORMAT.md, "Stage 6, chains and trees".
use Rattle.std.specs.Prelude.{ℕ, List, [], ◌∷◌}
use Rattle.sample_contents.specs.Fields.{text, set, child, recno_child, hash_tree, hash_text, pair, live, leaf, recno_leaf, dup_leaf, internal, recno_internal}
use Rattle.sample_contents.specs.Fields.{hash_page, btree, recno, table}

abbrev pub linked_leaf : (previous next : ℕ) → List ℕ
linked_leaf previous next = btree 0 (leaf 1 previous next (live "a" ∷ []) ∷ [])

-- leaves 2 and 3 below an internal root, with the previous and next page of each
abbrev pub two_leaves : (previous_of_2 next_of_2 previous_of_3 next_of_3 : ℕ) → List ℕ
two_leaves previous_of_2 next_of_2 previous_of_3 next_of_3 = btree 0 (
    internal 1 2 (child 2 0 "" ∷ child 3 0 "b" ∷ [])
    ∷ leaf 2 previous_of_2 next_of_2 (live "a" ∷ [])
    ∷ leaf 3 previous_of_3 next_of_3 (live "b" ∷ [])
    ∷ [])

-- the first child is page 3
abbrev pub turned_leaves : (previous_of_2 next_of_2 previous_of_3 next_of_3 : ℕ) → List ℕ
turned_leaves previous_of_2 next_of_2 previous_of_3 next_of_3 = btree 0 (
    internal 1 2 (child 3 0 "" ∷ child 2 0 "b" ∷ [])
    ∷ leaf 2 previous_of_2 next_of_2 (live "b" ∷ [])
    ∷ leaf 3 previous_of_3 next_of_3 (live "a" ∷ [])
    ∷ [])

-- leaves 4 and 5 below page 2, and leaf 6 below page 3; given are next of 5 and previous of 6
abbrev pub three_levels : (next_of_5 previous_of_6 : ℕ) → List ℕ
three_levels next_of_5 previous_of_6 = btree 0 (
    internal 1 3 (child 2 0 "" ∷ child 3 0 "c" ∷ [])
    ∷ internal 2 2 (child 4 0 "" ∷ child 5 0 "b" ∷ [])
    ∷ internal 3 2 (child 6 0 "" ∷ [])
    ∷ leaf 4 0 5 (live "a" ∷ [])
    ∷ leaf 5 4 next_of_5 (live "b" ∷ [])
    ∷ leaf 6 previous_of_6 0 (live "c" ∷ [])
    ∷ [])

-- a leaf of sorted duplicates beside a leaf of pairs
abbrev pub mixed_leaves : (next_of_2 previous_of_3 : ℕ) → List ℕ
mixed_leaves next_of_2 previous_of_3 = btree 0 (
    internal 1 2 (child 2 0 "" ∷ child 3 0 "b" ∷ [])
    ∷ leaf 2 0 next_of_2 (live "a" ∷ [])
    ∷ dup_leaf 3 previous_of_3 0 (text "b" ∷ [])
    ∷ [])

abbrev pub record_leaves : (next_of_2 previous_of_3 : ℕ) → List ℕ
record_leaves next_of_2 previous_of_3 = recno 2 0 (
    recno_internal 1 2 (recno_child 2 1 ∷ recno_child 3 1 ∷ [])
    ∷ recno_leaf 2 0 next_of_2 (text "a" ∷ [])
    ∷ recno_leaf 3 previous_of_3 0 (text "b" ∷ [])
    ∷ [])

-- a sorted set with page 3 below its root
abbrev pub set_above : List ℕ → List ℕ
set_above last = btree 0x41 (leaf 1 0 0 (pair (text "a") (set 2) ∷ []) ∷ internal 2 2 (child 3 0 "" ∷ []) ∷ last ∷ [])

-- two sets, whose one leaves are pages 2 and 3
abbrev pub two_sets : (next_of_2 previous_of_3 : ℕ) → List ℕ
two_sets next_of_2 previous_of_3 = btree 1 (
    leaf 1 0 0 (pair (text "a") (set 2) ∷ pair (text "b") (set 3) ∷ [])
    ∷ recno_leaf 2 0 next_of_2 (text "1" ∷ [])
    ∷ recno_leaf 3 previous_of_3 0 (text "2" ∷ [])
    ∷ [])

-- a set of a hash, on page 3
abbrev pub set_in_a_table : (previous next : ℕ) → List ℕ
set_in_a_table previous next = table 1 (
    hash_page 1 0 0 []
    ∷ hash_page 2 0 0 (pair (hash_text "a") (hash_tree 3) ∷ [])
    ∷ recno_leaf 3 previous next (text "1" ∷ [])
    ∷ [])
