-- Files with two databases that a master names. Source: docs/FORMAT.md, "Databases of a file".
use Rattle.std.specs.Prelude.{ℕ, ◌+◌, List, [], ◌∷◌, length}
use Prim.Native.String.{String}
use Rattle.sample_graphs.specs.of_format.Terms.{joined}
use Rattle.sample_contents.specs.Fields.{Entry, inline, text, pair, leaf, hash_page, btree_meta, hash_meta}

-- a pair of a master: a name, and the number of a page below 256 in four bytes, the high one first
abbrev pub names : String → ℕ → List Entry
names name page = pair (text name) (inline (0 ∷ 0 ∷ 0 ∷ page ∷ []))

-- a master with its pairs on page 1; a btree with metadata on page 2 and its leaf on page 3; a hash with metadata on page 4 and its buckets
-- on pages 5 and 6; and more pages
abbrev pub named_file : (names leaf_pairs bucket_pairs : List (List Entry)) → List (List ℕ) → List ℕ
named_file names leaf_pairs bucket_pairs more = joined (
    btree_meta 0 (6 + length more) 0x20 0 1
    ∷ leaf 1 0 0 names
    ∷ btree_meta 2 0 0 0 3
    ∷ leaf 3 0 0 leaf_pairs
    ∷ hash_meta 4 0 0 1 1 0 (5 ∷ 5 ∷ [])
    ∷ hash_page 5 0 0 bucket_pairs
    ∷ hash_page 6 0 0 []
    ∷ more)

-- the btree is `a`, and the hash is `b`
abbrev pub two_databases : (leaf_pairs bucket_pairs : List (List Entry)) → List ℕ
two_databases leaf_pairs bucket_pairs = named_file (names "a" 2 ∷ names "b" 4 ∷ []) leaf_pairs bucket_pairs []
