-- The lists of databases: their live pairs in order, and what a key has in them. Source: docs/FORMAT.md, "Lists of databases".
use Rattle.std.specs.Prelude.{ℕ, ◌+◌, ◌-◌, ◌*◌, nat_lt, nat_le, ◌==◌, ◌&&◌, if◌then◌else◌, Bool, false, List, [], ◌∷◌, map, slice_index, slice_range}
use Rattle.std.specs.List.{enumerate_from, filter, flat_map, range_with_len}
use Rattle.std.specs.Str.{bytes_eq}
use Rattle.bdb_format.specs.declared.metadata.HashMeta.{HashMeta}
use Rattle.bdb_format.specs.declared.metadata.QueueMeta.{QueueMeta}
use Rattle.bdb_format.specs.Numbers.{has_bit, pad4}
use Rattle.bdb_format.specs.Less.{less}
use Rattle.bdb_format.specs.Page.{Item, Metadata, BtreeFields, HashFields, QueueFields, Page, Queue}
use Rattle.bdb_format.specs.Flags.{is_recno}
use Rattle.bdb_format.specs.File.{File, page_at}
use Rattle.bdb_format.specs.Chains.{value_of}
use Rattle.bdb_format.specs.Contents.{StoredPair, data_of, tree_pairs, tree_entries, table_pairs}

-- the key of a pair of a list: bytes, or the number of a record
pub data ListKey : Type 0 where
  BytesKey : List ℕ → ListKey
  NumberKey : ℕ → ListKey

-- a live pair is its key with each of its data; a deleted one gives nothing
abbrev pub listed_pair : File → StoredPair → List (ListKey × List ℕ)
listed_pair file pair = if pair.live then map (λ value. (BytesKey pair.key, value)) (data_of file pair.data_item) else []

-- a btree: the live pairs of the leaves of its root
unfoldable pub btree_list : File → ℕ → List (ListKey × List ℕ)
btree_list file root = flat_map (listed_pair file) (tree_pairs file root)

abbrev pub listed_entry : File → (ℕ × Item) → List (ListKey × List ℕ)
listed_entry file (number, item) = if item.deleted then [] else (NumberKey number, value_of file item.content) ∷ []

-- a recno: the live entries, each with its place among all entries, from 1
unfoldable pub recno_list : File → ℕ → List (ListKey × List ℕ)
recno_list file root = flat_map (listed_entry file) (enumerate_from 1 (tree_entries file root))

-- where a slot of a queue page begins
abbrev pub slot_at : QueueMeta → ℕ → ℕ
slot_at meta slot = slot * pad4 (meta.re_len + 1)

-- the number of the record in a slot
abbrev pub record_number : QueueMeta → ℕ → ℕ → ℕ
record_number meta p slot = (p - 1) * meta.per_page + slot + 1

-- a record is live from the first one up to the one before the current one, where its slot is valid
abbrev pub is_record : QueueMeta → ℕ → List ℕ → ℕ → Bool
is_record meta p records slot =
    nat_le meta.first (record_number meta p slot) && nat_lt (record_number meta p slot) meta.current && has_bit (slice_index records (slot_at meta slot)) 0x01

abbrev pub listed_slot : QueueMeta → ℕ → List ℕ → ℕ → List (ListKey × List ℕ)
listed_slot meta p records slot =
    if is_record meta p records slot
    then (NumberKey (record_number meta p slot), slice_range records (slot_at meta slot + 1) (slot_at meta slot + 1 + meta.re_len)) ∷ []
    else []

-- the records of a page of a queue; a page of zeros has none
abbrev pub page_records : QueueMeta → ℕ → Page → List (ListKey × List ℕ)
page_records meta p (Queue number records) = flat_map (listed_slot meta p records) (range_with_len 0 meta.per_page)
page_records meta p page = []

-- a queue: the live records of its pages
unfoldable pub queue_list : File → QueueMeta → List (ListKey × List ℕ)
queue_list file meta = flat_map (λ p. page_records meta p (page_at file p)) (range_with_len 1 file.last)

-- a pair put before the first pair of an ascending list whose key isn't less
abbrev pub insert_pair : StoredPair → List StoredPair → List StoredPair
insert_pair pair [] = pair ∷ []
insert_pair pair (other ∷ others) = if less other.key pair.key then other ∷ insert_pair pair others else pair ∷ other ∷ others

-- pairs in the order of their keys, those of one key as they stand
abbrev pub by_key : List StoredPair → List StoredPair
by_key [] = []
by_key (pair ∷ pairs) = insert_pair pair (by_key pairs)

-- a hash: the pairs of all buckets, in the order of their keys
unfoldable pub hash_list : File → HashMeta → List (ListKey × List ℕ)
hash_list file meta = flat_map (listed_pair file) (by_key (table_pairs file meta))

-- the list of the database with this metadata
abbrev pub list_of : File → Metadata → List (ListKey × List ℕ)
list_of file (BtreeFields meta) = if is_recno meta then recno_list file meta.root else btree_list file meta.root
list_of file (HashFields meta) = hash_list file meta
list_of file (QueueFields meta) = queue_list file meta

abbrev pub is_key : ListKey → ListKey → Bool
is_key (BytesKey a) (BytesKey b) = bytes_eq a b
is_key (NumberKey a) (NumberKey b) = a == b
is_key a b = false

-- what a list has under a key, in order
abbrev pub get : List (ListKey × List ℕ) → ListKey → List (List ℕ)
get list key = map (λ (entry : ListKey × List ℕ). entry.1) (filter (λ (entry : ListKey × List ℕ). is_key entry.0 key) list)
