-- What leaves and hash pages hold: pairs with their data, and records. Source: docs/FORMAT.md, "Items".
use Rattle.std.specs.Prelude.{ℕ, ◌+◌, ◌*◌, ◌/◌, not, Bool, false, List, [], ◌∷◌, map, length}
use Rattle.std.specs.List.{filter, flat_map, range_with_len}
use Rattle.bdb_format.specs.declared.metadata.HashMeta.{HashMeta}
use Rattle.bdb_format.specs.Hashing.{first_page}
use Rattle.bdb_format.specs.Page.{Content, Inline, Set, Chain, Tree, Unknown, Item, Listed, Page, Hash, Leaf, RecnoLeaf, DupLeaf}
use Rattle.bdb_format.specs.File.{File, page_at}
use Rattle.bdb_format.specs.References.{is_shared_key, item_at}
use Rattle.bdb_format.specs.Chains.{chain, value_of}
use Rattle.bdb_format.specs.Leaves.{leaves}

-- a pair: its page, the value of its key, what its data item holds, and whether it's live and shares the key of the pair before it
pub record StoredPair : Type 0 where
  pub page : ℕ
  pub key : List ℕ
  pub data_item : Content
  pub live : Bool
  pub shares : Bool

-- pair i of a page: its key at an even index, its data at the next
abbrev pub pair_at : File → ℕ → Listed Item → (ℕ → Bool) → ℕ → StoredPair
pair_at file p page shares i = record {
  page = p;
  key = value_of file (item_at page (2 * i)).content;
  data_item = (item_at page (2 * i + 1)).content;
  live = not (item_at page (2 * i + 1)).deleted;
  shares = shares i;
}

-- the pairs of a leaf or of a hash page, in the order of the index; on a hash page no pair shares a key
abbrev pub pairs_in : File → ℕ → Page → List StoredPair
pairs_in file p (Leaf page) = map (pair_at file p page (λ i. is_shared_key page.offsets (2 * i))) (range_with_len 0 (length page.items / 2))
pairs_in file p (Hash page) = map (pair_at file p page (λ i. false)) (range_with_len 0 (length page.items / 2))
pairs_in file p page = []

unfoldable pub pairs_of : File → ℕ → List StoredPair
pairs_of file p = pairs_in file p (page_at file p)

-- the entries of a leaf of records or of data
abbrev pub entries_in : Page → List Item
entries_in (RecnoLeaf page) = page.items
entries_in (DupLeaf page) = page.items
entries_in page = []

-- the values of the live entries of a page
abbrev pub live_values : File → Page → List (List ℕ)
live_values file page = map (λ (item : Item). value_of file item.content) (filter (λ (item : Item). not item.deleted) (entries_in page))

-- the data of a data item: its one value, its blocks, or the live values of the leaves below its root
unfoldable pub data_of : File → Content → List (List ℕ)
data_of file (Inline bytes) = bytes ∷ []
data_of file (Set blocks) = blocks
data_of file (Chain head total) = value_of file (Chain head total) ∷ []
data_of file (Tree root) = flat_map (λ p. live_values file (page_at file p)) (leaves file root)
data_of file Unknown = []

-- all pairs of a tree, from left to right
unfoldable pub tree_pairs : File → ℕ → List StoredPair
tree_pairs file root = flat_map (pairs_of file) (leaves file root)

-- all entries of a tree of records, from left to right
unfoldable pub tree_entries : File → ℕ → List Item
tree_entries file root = flat_map (λ p. entries_in (page_at file p)) (leaves file root)

-- the pages of a bucket
abbrev pub bucket_pages : File → HashMeta → ℕ → List ℕ
bucket_pages file meta b = chain file (first_page b meta.spares)

abbrev pub bucket_pairs : File → HashMeta → ℕ → List StoredPair
bucket_pairs file meta b = flat_map (pairs_of file) (bucket_pages file meta b)

-- all pairs of a table, in the order of its buckets
unfoldable pub table_pairs : File → HashMeta → List StoredPair
table_pairs file meta = flat_map (bucket_pairs file meta) (range_with_len 0 (meta.max_bucket + 1))
