-- Masters with pairs that are given, and the databases that come of them. Source: docs/FORMAT.md, "Databases of a file" and "Stage 7, the master".
use Rattle.std.specs.Prelude.{ℕ, List, [], ◌∷◌, replicate, codes, Some, None}
use Prim.Native.String.{String}
use Rattle.sample_graphs.specs.of_format.Terms.{BtreeFields, Database, HashFields, Metadata, QueueFields, joined}
use Rattle.sample_contents.specs.Fields.{Entry, inline, text, deleted, child, pair, leaf, internal, hash_page, overflow, btree_meta, table}
use Rattle.sample_contents.specs.Named.{named_file}

-- the btree and the hash below it have nothing in them
abbrev pub master : List (List Entry) → List ℕ
master names = named_file names [] [] []

-- the same with more pages
abbrev pub master_above : List (List ℕ) → List (List Entry) → List ℕ
master_above more names = named_file names [] [] more

-- a pair of a master with other data
abbrev pub holds : String → List ℕ → List Entry
holds name bytes = pair (text name) (inline bytes)

-- a deleted pair of a master, with the number of a page below 256
abbrev pub gone_name : String → ℕ → List Entry
gone_name name page = pair (text name) (deleted (inline (0 ∷ 0 ∷ 0 ∷ page ∷ [])))

-- a value in a chain of pages 7 and 8
abbrev pub value_on_7 : (left right : List ℕ) → List (List ℕ)
value_on_7 left right = overflow 7 0 8 1 left ∷ overflow 8 7 0 0 right ∷ []

-- a master with pairs on leaves 2 and 3, and two btrees with metadata on pages 4 and 6 and empty leaves on pages 5 and 7
abbrev pub master_of_two_leaves : (left right : List (List Entry)) → List ℕ
master_of_two_leaves left right = joined (
    btree_meta 0 7 0x20 0 1
    ∷ internal 1 2 (child 2 0 "" ∷ child 3 0 "b" ∷ [])
    ∷ leaf 2 0 3 left
    ∷ leaf 3 2 0 right
    ∷ btree_meta 4 0 0 0 5
    ∷ leaf 5 0 0 []
    ∷ btree_meta 6 0 0 0 7
    ∷ leaf 7 0 0 []
    ∷ [])

-- a hash on page 0, and a btree with metadata on page 3
abbrev pub btree_beside_a_hash : List ℕ
btree_beside_a_hash = table 0 (hash_page 1 0 0 [] ∷ hash_page 2 0 0 [] ∷ btree_meta 3 0 0 0 4 ∷ leaf 4 0 0 [] ∷ [])

-- Databases.

abbrev pub btree_fields : ℕ → Metadata
btree_fields root = BtreeFields (record { flags = 0; minkey = 2; re_len = 0; re_pad = 0; root = root; free = 0 })

-- two buckets, whose spare is given
abbrev pub hash_fields : ℕ → Metadata
hash_fields spare =
    HashFields (record { flags = 0; max_bucket = 1; high_mask = 1; low_mask = 0; ffactor = 0; spares = spare ∷ spare ∷ replicate 30 0; free = 0 })

abbrev pub queue_fields : (first current re_len per_page : ℕ) → Metadata
queue_fields first current re_len per_page =
    QueueFields (record { first = first; current = current; re_len = re_len; re_pad = 0; per_page = per_page })

abbrev pub nameless : Metadata → Database
nameless fields = record { name = None; fields = fields }

abbrev pub has_name : String → Metadata → Database
has_name name fields = record { name = Some (codes name); fields = fields }

-- those below a master
abbrev pub the_btree : String → Database
the_btree name = has_name name (btree_fields 3)

abbrev pub the_hash : String → Database
the_hash name = has_name name (hash_fields 5)
