-- Files with chains, whose items tell a total length. Source: docs/FORMAT.md, "Other pages" and "Stage 6, chains and trees".
use Rattle.std.specs.Prelude.{ℕ, ◌+◌, ◌-◌, List, [], ◌∷◌, ◌++◌, map, replicate, codes}
use Rattle.std.specs.List.{range_with_len}
use Rattle.sample_contents.specs.Fields.{Entry, text, chain, set, deleted, child, child_by_chain, hash_text, hash_chain, pair, again, live, leaf, recno_leaf}
use Rattle.sample_contents.specs.Fields.{dup_leaf, internal, hash_page, overflow, btree, recno, table}

-- pages 2 to 12, ten of 486 bytes and one of 140: 5,000 bytes in all
abbrev pub eleven_pages : List (List ℕ)
eleven_pages =
    overflow 2 0 3 1 (replicate 486 98)
    ∷ (map (λ p. overflow p (p - 1) (p + 1) 0 (replicate 486 98)) (range_with_len 3 9) ++ (overflow 12 11 0 0 (replicate 140 98) ∷ []))

-- a pair whose data stand there, with the total that its item tells
abbrev pub long_value : ℕ → List ℕ
long_value total = btree 0 (leaf 1 0 0 (pair (text "a") (chain 2 total) ∷ []) ∷ eleven_pages)

-- `abcde` on two pages, neither of them full; the head counts its references
abbrev pub five_bytes : (head count : ℕ) → List (List ℕ)
five_bytes head count = overflow head 0 (head + 1) count (codes "abc") ∷ overflow (head + 1) head 0 0 (codes "de") ∷ []

-- a leaf with these pairs, and that chain on pages 2 and 3
abbrev pub leaf_with_chain : (flags count : ℕ) → List (List Entry) → List ℕ
leaf_with_chain flags count list = btree flags (leaf 1 0 0 list ∷ five_bytes 2 count)

abbrev pub chain_of_data : ℕ → List ℕ
chain_of_data total = leaf_with_chain 0 1 (pair (text "a") (chain 2 total) ∷ [])

abbrev pub chain_of_deleted_data : ℕ → List ℕ
chain_of_deleted_data total = leaf_with_chain 0 1 (pair (text "a") (deleted (chain 2 total)) ∷ [])

abbrev pub chain_of_key : ℕ → List ℕ
chain_of_key total = leaf_with_chain 0 1 (pair (chain 2 total) (text "1") ∷ [])

-- two pairs share the key
abbrev pub chain_of_shared_key : ℕ → List ℕ
chain_of_shared_key total = leaf_with_chain 1 1 (pair (chain 2 total) (text "1") ∷ again (text "2") ∷ [])

-- two pairs with the same chain, and the total that each tells
abbrev pub chain_of_two : (first second : ℕ) → List ℕ
chain_of_two first second = leaf_with_chain 0 2 (pair (text "a") (chain 2 first) ∷ pair (text "b") (chain 2 second) ∷ [])

-- the same on two leaves
abbrev pub chain_of_two_leaves : (first second : ℕ) → List ℕ
chain_of_two_leaves first second = btree 0 (
    internal 1 2 (child 2 0 "" ∷ child 3 0 "b" ∷ [])
    ∷ leaf 2 0 3 (pair (text "a") (chain 4 first) ∷ [])
    ∷ leaf 3 2 0 (pair (text "b") (chain 4 second) ∷ [])
    ∷ five_bytes 4 2)

-- the first key of an internal page, which is never compared
abbrev pub chain_of_first_key : ℕ → List ℕ
chain_of_first_key total = btree 0 (internal 1 2 (child_by_chain 2 0 3 total ∷ []) ∷ leaf 2 0 0 (live "a" ∷ []) ∷ five_bytes 3 1)

abbrev pub chain_of_deleted_record : ℕ → List ℕ
chain_of_deleted_record total = recno 2 0 (recno_leaf 1 0 0 (deleted (chain 2 total) ∷ []) ∷ five_bytes 2 1)

-- a datum of a sorted set, on page 2
abbrev pub chain_in_a_set : ℕ → List ℕ
chain_in_a_set total = btree 0x41 (leaf 1 0 0 (pair (text "a") (set 2) ∷ []) ∷ dup_leaf 2 0 0 (chain 3 total ∷ []) ∷ five_bytes 3 1)

-- a key in the bucket of page 2
abbrev pub chain_of_hash_key : ℕ → List ℕ
chain_of_hash_key total = table 0 (hash_page 1 0 0 [] ∷ hash_page 2 0 0 (pair (hash_chain 3 total) (hash_text "1") ∷ []) ∷ five_bytes 3 1)

-- a chain of one page without data
abbrev pub empty_chain : ℕ → List ℕ
empty_chain total = btree 0 (leaf 1 0 0 (pair (text "a") (chain 2 total) ∷ []) ∷ overflow 2 0 0 1 [] ∷ [])
