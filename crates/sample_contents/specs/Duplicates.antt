-- Btrees with keys that have several data, on their page and off it. Source: docs/FORMAT.md, "Items", "Trees of duplicates" and "Stage 8, contents".
use Rattle.std.specs.Prelude.{ℕ, List, [], ◌∷◌, map}
use Prim.Native.String.{String}
use Rattle.sample_contents.specs.Fields.{text, set, deleted, child, recno_child, pair, again, live, leaf, recno_leaf, dup_leaf, internal, recno_internal, btree}
use Rattle.sample_contents.specs.Fields.{one_leaf}

-- a pair for each of these items, all with the key `a`
abbrev pub under_one_key : ℕ → List ℕ → List (List ℕ) → List ℕ
under_one_key flags first items = one_leaf flags (pair (text "a") first ∷ map again items)

-- the data `2` and `1` under the key `a`, a deleted `0` there, and a pair more
abbrev pub several_data : List ℕ
several_data = one_leaf 1 (pair (text "a") (text "2") ∷ again (text "1") ∷ again (deleted (text "0")) ∷ live "b" ∷ [])

-- the data of the key `a` are the item, and the tree of a set begins on page 2
abbrev pub with_item : ℕ → List ℕ → List (List ℕ) → List ℕ
with_item flags item tree = btree flags (leaf 1 0 0 (pair (text "a") item ∷ []) ∷ tree)

abbrev pub with_set : ℕ → List (List ℕ) → List ℕ
with_set flags tree = with_item flags (set 2) tree

-- trees of a set from page 2 on: a leaf of either type, with items; and a leaf with one datum below an internal page

abbrev pub sorted_items : List (List ℕ) → List (List ℕ)
sorted_items items = dup_leaf 2 0 0 items ∷ []

abbrev pub unsorted_items : List (List ℕ) → List (List ℕ)
unsorted_items items = recno_leaf 2 0 0 items ∷ []

abbrev pub sorted_level : List (List ℕ)
sorted_level = internal 2 2 (child 3 0 "" ∷ []) ∷ dup_leaf 3 0 0 (text "1" ∷ []) ∷ []

abbrev pub unsorted_level : List (List ℕ)
unsorted_level = recno_internal 2 2 (recno_child 3 0 ∷ []) ∷ recno_leaf 3 0 0 (text "1" ∷ []) ∷ []

-- a sorted set on two leaves, which hold these data
abbrev pub set_on_two_leaves : (left right : List (List ℕ)) → List ℕ
set_on_two_leaves left right =
    with_set 0x41 (internal 2 2 (child 3 0 "" ∷ child 4 0 "2" ∷ []) ∷ dup_leaf 3 0 4 left ∷ dup_leaf 4 3 0 right ∷ [])

-- the set of page 2, `1` and `2`, and a pair more for its key
abbrev pub set_and_pair : String → List ℕ
set_and_pair datum =
    btree 0x41 (leaf 1 0 0 (pair (text "a") (set 2) ∷ again (text datum) ∷ []) ∷ sorted_items (text "1" ∷ text "2" ∷ []))
