-- The rows of stage 8: what a database holds keeps its rules. Source: docs/FORMAT.md, "Stage 8, contents".
use Rattle.std.specs.Prelude.{ℕ, zero, suc, ◌+◌, ◌-◌, nat_lt, nat_le, ◌==◌, ◌&&◌, ◌||◌, not, if◌then◌else◌, Bool, true, false, List, [], ◌∷◌, ◌++◌, map, length}
use Rattle.std.specs.Prelude.{take, drop, get_or}
use Rattle.std.specs.List.{enumerate_from, filter, flat_map, list_any, range_with_len, take_while}
use Rattle.std.specs.Option.{unwrap_or, is_some}
use Rattle.std.specs.Str.{bytes_eq}
use Rattle.bdb_format.specs.declared.kinds.Fault.{Fault}
use Rattle.bdb_format.specs.declared.metadata.BtreeMeta.{BtreeMeta}
use Rattle.bdb_format.specs.declared.metadata.HashMeta.{HashMeta}
use Rattle.bdb_format.specs.declared.pages.RecnoItem.{RecnoItem}
use Rattle.bdb_format.specs.Less.{less}
use Rattle.bdb_format.specs.Hashing.{hash5, bucket}
use Rattle.bdb_format.specs.Table.{Row, ◌:?◌}
use Rattle.bdb_format.specs.Page.{Content, Inline, Set, Chain, Tree, Unknown, Item, InternalItem, Metadata, BtreeFields, HashFields, QueueFields, Page, Meta}
use Rattle.bdb_format.specs.Page.{Internal, RecnoInternal}
use Rattle.bdb_format.specs.Flags.{is_recno, has_duplicates, is_sorted, counts_records, is_fixed}
use Rattle.bdb_format.specs.File.{File, page_at, header_in, type_in}
use Rattle.bdb_format.specs.References.{has_type}
use Rattle.bdb_format.specs.Chains.{value_of}
use Rattle.bdb_format.specs.Leaves.{children_in, leaves}
use Rattle.bdb_format.specs.Contents.{StoredPair, entries_in, data_of, tree_pairs, tree_entries, bucket_pairs, table_pairs}
use Rattle.bdb_format.specs.ByPage.{by_page, holding}

-- Duplicates and DuplicateKind.

abbrev pub is_set : Content → Bool
is_set (Inline bytes) = false
is_set (Set blocks) = true
is_set (Chain head total) = false
is_set (Tree root) = true
is_set Unknown = false

-- a pair that only a database with duplicates may have
abbrev pub is_duplicate : StoredPair → Bool
is_duplicate pair = pair.shares || is_set pair.data_item

-- the types that the root of a set hasn't
abbrev pub wrong_set_types : Bool → List ℕ
wrong_set_types sorted = if sorted then 4 ∷ 6 ∷ [] else 3 ∷ 12 ∷ []

abbrev pub is_wrong_set : File → Bool → Content → Bool
is_wrong_set file sorted (Tree root) = has_type (wrong_set_types sorted) (type_in (page_at file root))
is_wrong_set file sorted content = false

-- KeyOrder: a pair that doesn't share its key has one above that of the pair before it.

-- each two pairs that follow each other
abbrev pub neighbours_from : StoredPair → List StoredPair → List (StoredPair × StoredPair)
neighbours_from pair [] = []
neighbours_from pair (next ∷ pairs) = (pair, next) ∷ neighbours_from next pairs

abbrev pub neighbours : List StoredPair → List (StoredPair × StoredPair)
neighbours [] = []
neighbours (pair ∷ pairs) = neighbours_from pair pairs

abbrev pub is_out_of_order : (StoredPair × StoredPair) → Bool
is_out_of_order two = not two.1.shares && not (less two.0.key two.1.key)

-- DuplicateOrder: the live data of a pair and of the pairs after it that share its key ascend.

abbrev pub ascends_from : List ℕ → List (List ℕ) → Bool
ascends_from value [] = true
ascends_from value (next ∷ values) = less value next && ascends_from next values

abbrev pub ascends : List (List ℕ) → Bool
ascends [] = true
ascends (value ∷ values) = ascends_from value values

-- each pair, with those after it that share its key
abbrev pub groups : List StoredPair → List (StoredPair × List StoredPair)
groups [] = []
groups (pair ∷ pairs) = (pair, take_while (λ (other : StoredPair). other.shares) pairs) ∷ groups pairs

abbrev pub live_data : File → StoredPair → List (List ℕ)
live_data file pair = if pair.live then data_of file pair.data_item else []

abbrev pub is_unsorted : File → (StoredPair × List StoredPair) → Bool
is_unsorted file group = not (ascends (flat_map (live_data file) (group.0 ∷ group.1)))

-- the rows of pairs at a page: Duplicates, DuplicateKind, DuplicateOrder

abbrev pub has_duplicate : List StoredPair → ℕ → Bool
has_duplicate pairs p = list_any (λ (pair : StoredPair). pair.page == p && is_duplicate pair) pairs

abbrev pub has_wrong_set : File → Bool → List StoredPair → ℕ → Bool
has_wrong_set file sorted pairs p = list_any (λ (pair : StoredPair). pair.page == p && is_wrong_set file sorted pair.data_item) pairs

abbrev pub has_unsorted : File → List StoredPair → ℕ → Bool
has_unsorted file pairs p = list_any (λ (group : StoredPair × List StoredPair). group.0.page == p && is_unsorted file group) (groups pairs)

-- Separator and Count, at the internal pages of a tree.

-- the internal pages at or below these pages, level by level
abbrev pub inner_in : ℕ → File → List ℕ → List ℕ
inner_in zero file ps = []
inner_in (suc levels) file ps =
    filter (λ p. is_some (children_in (page_at file p))) ps ++ inner_in levels file (flat_map (λ p. unwrap_or (children_in (page_at file p)) []) ps)

-- the internal pages of a tree
unfoldable pub inner_pages : File → ℕ → List ℕ
inner_pages file root = inner_in (header_in (page_at file root)).level file (root ∷ [])

-- a separator of an internal page, and the keys of all pairs below its child
pub record Separated : Type 0 where
  pub key : List ℕ
  pub below : List (List ℕ)

abbrev pub separated : File → InternalItem → Separated
separated file item = record { key = value_of file item.key; below = map (λ (pair : StoredPair). pair.key) (tree_pairs file item.child) }

abbrev pub no_separator : Separated
no_separator = record { key = []; below = [] }

-- the item at this index, above 0: its key isn't above that of the item before it, where that is above index 0 too;
-- or a key below its child or a later one is less; or a key below an earlier child isn't less
abbrev pub breaks : List Separated → ℕ → Bool
breaks parts i =
    let key : List ℕ = (get_or parts i no_separator).key in
    (nat_le 2 i && not (less (get_or parts (i - 1) no_separator).key key))
    || list_any (λ other. less other key) (flat_map (λ (part : Separated). part.below) (drop i parts))
    || list_any (λ other. not (less other key)) (flat_map (λ (part : Separated). part.below) (take i parts))

abbrev pub has_wrong_separator : File → Page → Bool
has_wrong_separator file (Internal page) =
    let parts : List Separated = map (separated file) page.items in
    list_any (breaks parts) (range_with_len 1 (length parts - 1))
has_wrong_separator file page = false

-- the count of an item is between the live and all pairs below its child
abbrev pub is_wrong_count : File → InternalItem → Bool
is_wrong_count file item =
    let pairs : List StoredPair = tree_pairs file item.child in
    nat_lt item.count (length (filter (λ (pair : StoredPair). pair.live) pairs)) || nat_lt (length pairs) item.count

abbrev pub has_wrong_count : File → Page → Bool
has_wrong_count file (Internal page) = list_any (is_wrong_count file) page.items
has_wrong_count file (RecnoInternal page) = list_any (λ (item : RecnoItem). not (item.count == length (tree_entries file item.child))) page.items
has_wrong_count file page = false

-- a page of this list for which a test holds
abbrev pub is_wrong_at : File → (Page → Bool) → List ℕ → ℕ → Bool
is_wrong_at file test pages p = list_any (λ q. q == p && test (page_at file q)) pages

-- a btree: Duplicates, DuplicateKind, KeyOrder, Separator, DuplicateOrder, Count
abbrev pub btree_contents : File → BtreeMeta → ℕ → List (Row ℕ)
btree_contents file meta p =
    let pairs : List StoredPair = tree_pairs file meta.root in
    1 :? (not (has_duplicates (BtreeFields meta)) && has_duplicate pairs p)
    ∷ 2 :? has_wrong_set file (is_sorted (BtreeFields meta)) pairs p
    ∷ 3 :? list_any (λ (two : StoredPair × StoredPair). two.1.page == p && is_out_of_order two) (neighbours pairs)
    ∷ 4 :? is_wrong_at file (has_wrong_separator file) (inner_pages file meta.root) p
    ∷ 5 :? (is_sorted (BtreeFields meta) && has_unsorted file pairs p)
    ∷ 6 :? (counts_records meta && is_wrong_at file (has_wrong_count file) (inner_pages file meta.root) p)
    ∷ []

-- a live record whose length isn't the fixed one
abbrev pub is_wrong_record : File → BtreeMeta → Item → Bool
is_wrong_record file meta item = not item.deleted && not (length (value_of file item.content) == meta.re_len)

abbrev pub has_wrong_record : File → BtreeMeta → Page → Bool
has_wrong_record file meta page = list_any (is_wrong_record file meta) (entries_in page)

-- a recno: Count, RecordLength
abbrev pub recno_contents : File → BtreeMeta → ℕ → List (Row ℕ)
recno_contents file meta p =
    6 :? is_wrong_at file (has_wrong_count file) (inner_pages file meta.root) p
    ∷ 7 :? (is_fixed meta && is_wrong_at file (has_wrong_record file meta) (leaves file meta.root) p)
    ∷ []

-- the bucket of a key
abbrev pub bucket_of_key : HashMeta → List ℕ → ℕ
bucket_of_key meta key = bucket (hash5 key) meta.max_bucket meta.high_mask meta.low_mask

abbrev pub has_wrong_bucket : File → HashMeta → ℕ → Bool
has_wrong_bucket file meta p =
    list_any (λ b. list_any (λ (pair : StoredPair). pair.page == p && not (bucket_of_key meta pair.key == b)) (bucket_pairs file meta b))
    (range_with_len 0 (meta.max_bucket + 1))

-- pair i repeats where a pair before it has its key
abbrev pub repeats : List StoredPair → (ℕ × StoredPair) → Bool
repeats pairs (i, pair) = list_any (λ (other : StoredPair). bytes_eq other.key pair.key) (take i pairs)

-- the pairs that repeat, in order
abbrev pub repeated : List StoredPair → List StoredPair
repeated pairs = map (λ (placed : ℕ × StoredPair). placed.1) (filter (repeats pairs) (enumerate_from 0 pairs))

-- a hash: Duplicates, DuplicateKind, DuplicateOrder, Bucket, KeyTwice
abbrev pub hash_contents : File → HashMeta → ℕ → List (Row ℕ)
hash_contents file meta p =
    let pairs : List StoredPair = table_pairs file meta in
    1 :? (not (has_duplicates (HashFields meta)) && has_duplicate pairs p)
    ∷ 2 :? has_wrong_set file (is_sorted (HashFields meta)) pairs p
    ∷ 5 :? (is_sorted (HashFields meta) && has_unsorted file pairs p)
    ∷ 8 :? has_wrong_bucket file meta p
    ∷ 9 :? list_any (λ (pair : StoredPair). pair.page == p) (repeated pairs)
    ∷ []

-- the rows of a database by its metadata; no row speaks of queues
abbrev pub database_rows : File → Metadata → ℕ → List (Row ℕ)
database_rows file (BtreeFields meta) p = if is_recno meta then recno_contents file meta p else btree_contents file meta p
database_rows file (HashFields meta) p = hash_contents file meta p
database_rows file (QueueFields meta) p = []

-- the faults of stage 8 of the database with this metadata
unfoldable pub database_faults : File → Metadata → List Fault
database_faults file fields = by_page 8 0 (file.last + 1) (λ p. holding (database_rows file fields p))

-- Stage 8 of a whole file: a row holds at a page where it does for some database.

-- the fields of a metadata page
abbrev pub fields_in : Page → List Metadata
fields_in (Meta fields) = fields ∷ []
fields_in page = []

-- the metadata of a file, page by page
abbrev pub fields_of : File → List Metadata
fields_of file = flat_map fields_in file.pages

-- a row with this code holds
abbrev pub holds_code : ℕ → List (Row ℕ) → Bool
holds_code code rows = list_any (λ (row : Row ℕ). row.code == code && row.holds) rows

-- the row with this code holds at a page for some database
abbrev pub holds_somewhere : File → ℕ → ℕ → Bool
holds_somewhere file p code = list_any (λ fields. holds_code code (database_rows file fields p)) (fields_of file)

abbrev pub contents_rows : File → ℕ → List (Row ℕ)
contents_rows file p = map (λ code. code :? holds_somewhere file p code) (range_with_len 1 9)
