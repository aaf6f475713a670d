-- Hashes. Source: docs/FORMAT.md, "Hash formulas" and "Stage 8, contents".
-- The hash of a key of one byte is that byte; so of two buckets `a` and `c` have bucket 1, on page 2, and `b` and `d` have bucket 0, on page 1.
use Rattle.std.specs.Prelude.{ℕ, List, [], ◌∷◌}
use Prim.Native.String.{String}
use Rattle.sample_graphs.specs.of_format.Terms.{joined}
use Rattle.sample_contents.specs.Fields.{Entry, hash_text, hash_set, pair, hash_page, zero_page, hash_meta, table}

abbrev pub hash_live : String → List Entry
hash_live key = pair (hash_text key) (hash_text "1")

-- the pairs on pages 1 and 2
abbrev pub buckets : ℕ → (first second : List (List Entry)) → List ℕ
buckets flags first second = table flags (hash_page 1 0 0 first ∷ hash_page 2 0 0 second ∷ [])

abbrev pub five_keys : List ℕ
five_keys = buckets 0 (hash_live "d" ∷ hash_live "b" ∷ []) (hash_live "c" ∷ hash_live "ab" ∷ hash_live "a" ∷ [])

-- the data of `b` are a set
abbrev pub set_in_a_bucket : List ℕ
set_in_a_bucket = buckets 1 (pair (hash_text "b") (hash_set ("2" ∷ "1" ∷ "2" ∷ [])) ∷ []) (hash_live "a" ∷ [])

-- the data of `a` are a set without data
abbrev pub empty_set_in_a_bucket : List ℕ
empty_set_in_a_bucket = buckets 1 (hash_live "b" ∷ []) (pair (hash_text "a") (hash_set []) ∷ hash_live "c" ∷ [])

-- bucket 0 goes on with page 3
abbrev pub longer_bucket : (first second third : List (List Entry)) → List ℕ
longer_bucket first second third = table 0 (hash_page 1 0 3 first ∷ hash_page 2 0 0 second ∷ hash_page 3 1 0 third ∷ [])

-- the data of the key `a` are the item, and the tree of a set is page 3
abbrev pub with_hash_item : ℕ → List ℕ → List (List ℕ) → List ℕ
with_hash_item flags item tree = table flags (hash_page 1 0 0 [] ∷ hash_page 2 0 0 (pair (hash_text "a") item ∷ []) ∷ tree)

-- three buckets, on pages 1 to 3, and a page in reserve
abbrev pub three_buckets : (first second third : List (List Entry)) → List ℕ
three_buckets first second third = joined (
    hash_meta 0 4 0 2 3 1 (1 ∷ 1 ∷ 1 ∷ [])
    ∷ hash_page 1 0 0 first
    ∷ hash_page 2 0 0 second
    ∷ hash_page 3 0 0 third
    ∷ zero_page
    ∷ [])

-- one bucket, whose low mask is free
abbrev pub one_bucket : List (List Entry) → List ℕ
one_bucket list = joined (hash_meta 0 1 0 0 0 9 (1 ∷ []) ∷ hash_page 1 0 0 list ∷ [])

-- the first page of bucket 1 is a zero page
abbrev pub zero_bucket : List (List Entry) → List ℕ
zero_bucket first = table 0 (hash_page 1 0 0 first ∷ zero_page ∷ [])
