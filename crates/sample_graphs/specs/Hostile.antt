-- Files that are sound but for a few bytes, which a careless reader would follow. Source: docs/FORMAT.md, "References" to "Stage 5, reach".
use Rattle.std.specs.Prelude.{ℕ, ◌+◌, ◌*◌, List, [], ◌∷◌, ◌++◌, replicate}
use Rattle.sample_pages.specs.of_format.Terms.{overwritten}
use Rattle.sample_pages.specs.OnePair.{one_pair}
use Rattle.sample_graphs.specs.Worked.{chain_of_two_pairs, small_hash_table}

-- the file with one pair, and its root is page 0
abbrev pub root_of_zero : List ℕ
root_of_zero = overwritten one_pair 88 (0 ∷ [])

-- its leaf has type 6
abbrev pub root_is_a_recno_leaf : List ℕ
root_is_a_recno_leaf = overwritten one_pair (512 + 25) (6 ∷ [])

-- page 1 is an internal page of level 3 with one item at byte 500, whose child is page 1
abbrev pub own_child : List ℕ
own_child =
    overwritten (overwritten (overwritten one_pair (512 + 20) (1 ∷ 0 ∷ [])) (512 + 24) (3 ∷ 3 ∷ 244 ∷ 1 ∷ []))
    (512 + 500) (0 ∷ 0 ∷ 1 ∷ 0 ∷ 1 ∷ 0 ∷ 0 ∷ 0 ∷ 0 ∷ 0 ∷ 0 ∷ 0 ∷ [])

-- the file with one pair and one page more, of which a header's fields are given: numbers below 256
abbrev pub with_page : (previous next type : ℕ) → List ℕ
with_page previous next type =
    overwritten one_pair 32 (2 ∷ []) ++ (
    replicate 8 0 ++ (
    (2 ∷ 0 ∷ 0 ∷ 0 ∷ previous ∷ 0 ∷ 0 ∷ 0 ∷ next ∷ 0 ∷ 0 ∷ 0 ∷ 0 ∷ 0 ∷ 0 ∷ 0 ∷ 0 ∷ type ∷ []) ++ replicate 486 0))

-- page 2 continues a chain with itself
abbrev pub own_next_overflow_page : List ℕ
own_next_overflow_page = with_page 2 2 7

-- page 2 is the first free page, and the one after itself
abbrev pub free_page_in_a_ring : List ℕ
free_page_in_a_ring = overwritten (with_page 0 2 0) 28 (2 ∷ [])

-- the head of the chain counts one reference
abbrev pub chain_counted_once : List ℕ
chain_counted_once = overwritten chain_of_two_pairs (2 * 512 + 20) (1 ∷ [])

-- the bucket of page 1 continues with page 1
abbrev pub own_next_hash_page : List ℕ
own_next_hash_page = overwritten small_hash_table (512 + 16) (1 ∷ [])

-- six buckets with masks 7 and 3; the group of the last two has no page
abbrev pub bucket_without_a_page : List ℕ
bucket_without_a_page = overwritten small_hash_table 72 (5 ∷ 0 ∷ 0 ∷ 0 ∷ 7 ∷ 0 ∷ 0 ∷ 0 ∷ 3 ∷ [])

-- a file with duplicates; the data of its pair stand at byte 496, and are a set whose root is their own leaf
abbrev pub leaf_as_its_own_set : List ℕ
leaf_as_its_own_set =
    overwritten (overwritten (overwritten one_pair 48 (1 ∷ [])) (512 + 28) (240 ∷ 1 ∷ []))
    (512 + 496) (0 ∷ 0 ∷ 2 ∷ 0 ∷ 1 ∷ 0 ∷ 0 ∷ 0 ∷ [])
