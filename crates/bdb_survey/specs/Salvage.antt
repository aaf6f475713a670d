-- What salvage gives from the whole pages of an image, read in an order and with a page size that are guessed. Source: docs/FORMAT.md, "Salvage".
use Rattle.std.specs.Prelude.{ℕ, zero, suc, ◌+◌, ◌-◌, ◌*◌, ◌/◌, ◌==◌, ◌&&◌, not, if◌then◌else◌, Bool, true, false, List, [], ◌∷◌, map, length, take, drop}
use Rattle.std.specs.Prelude.{get_or}
use Rattle.std.specs.Prelude.{Option, Some, None, is_none}
use Rattle.std.specs.List.{flat_map, list_any, range_with_len}
use Rattle.bdb_law_sums.specs.of_format.declared.kinds.Order.{Order}
use Rattle.bdb_law_sums.specs.of_format.declared.references.Sort.TheVariants.{Child}
use Rattle.bdb_law_sums.specs.of_format.declared.metadata.FileKind.TheVariants.{Btree, Hash as HashFile}
use Rattle.bdb_law_sums.specs.of_format.declared.pages.PageType.{PageType}
use Rattle.bdb_law_sums.specs.of_format.declared.pages.PageType.TheVariants.{HashMeta, BtreeMeta}
use Rattle.bdb_law_sums.specs.of_format.Terms.{Chain, Content, DupLeaf, File, Hash, Inline, Item, Leaf, NoType, Overflow, Page, RecnoLeaf, Set, Tree, Unknown}
use Rattle.bdb_law_sums.specs.of_format.Terms.{abstract_page, byte_at, chain, children_in, entries_in, file_as, first_row, fit_code, four_at, header_in}
use Rattle.bdb_law_sums.specs.of_format.Terms.{joined, metadata_rows, next_of, no_item, page_at, page_code, page_type, pieces_of}

-- The pages.

-- a page, unless a row holds
abbrev pub unless_code : Option ℕ → Page → Page
unless_code None page = page
unless_code (Some code) page = NoType

-- the first row of metadata that holds, by the number that the page carries and the last page
abbrev pub meta_code : Order → ℕ → List ℕ → PageType → Option ℕ
meta_code order last page HashMeta = first_row (metadata_rows order page (four_at order page 8) last HashFile)
meta_code order last page BtreeMeta = first_row (metadata_rows order page (four_at order page 8) 0 Btree)
meta_code order last page t = None

-- the page that bytes stand for where no row of form holds, nor one of metadata, whatever number it has: it's held against itself
unfoldable pub salvaged_page : Order → ℕ → List ℕ → Page
salvaged_page order last page =
    unless_code (page_code order (four_at order page 8) page)
    (unless_code (meta_code order last page (page_type (byte_at page 25))) (abstract_page order page))

-- the whole pages of an image, those without a type on which a row holds
unfoldable pub salvaged_file : Order → ℕ → List ℕ → File
salvaged_file order size image =
    record (file_as order size image) {
      pages = map (λ p. salvaged_page order (length image / size - 1) (take size (drop (p * size) image))) (range_with_len 0 (length image / size));
    }

-- Pages that follow each other.

-- a page isn't page 0, is one of these, and names the page before it
abbrev pub is_link : File → (Page → Bool) → ℕ → ℕ → Bool
is_link file test before p = not (p == 0) && test (page_at file p) && (header_in (page_at file p)).previous == before

-- each page names the one before it, the first after this one, and the last has no next
abbrev pub follows : File → (Page → Bool) → ℕ → List ℕ → Bool
follows file test before [] = false
follows file test before (p ∷ []) = is_link file test before p && next_of file p == 0
follows file test before (p ∷ (q ∷ rest)) = is_link file test before p && follows file test p (q ∷ rest)

-- a page and those after it are a whole row of such pages
abbrev pub is_row : File → (Page → Bool) → ℕ → Bool
is_row file test head = follows file test 0 (chain file head)

abbrev pub is_overflow : Page → Bool
is_overflow (Overflow header piece) = true
is_overflow page = false

-- a chain is whole, and its length is the total
unfoldable pub is_whole : File → ℕ → ℕ → Bool
is_whole file head total = is_row file is_overflow head && length (joined (pieces_of file head)) == total

-- Sets off the page.

abbrev pub is_record_leaf : Page → Bool
is_record_leaf (RecnoLeaf page) = true
is_record_leaf page = false

abbrev pub is_sorted_leaf : Page → Bool
is_sorted_leaf (DupLeaf page) = true
is_sorted_leaf page = false

-- the leaves that may follow a leaf of a set: those of its type
abbrev pub is_like : Page → Page → Bool
is_like (RecnoLeaf page) = is_record_leaf
is_like (DupLeaf page) = is_sorted_leaf
is_like page = λ other. false

abbrev pub fits_below : File → ℕ → ℕ → Bool
fits_below file p child = is_none (fit_code file p (record { place = 0; sort = Child; target = child }))

-- the way down by first children that fit ends at this page
abbrev pub down_by : (ℕ → Option ℕ) → (ℕ → Bool) → ℕ → Option (List ℕ) → Option ℕ
down_by below fits p None = Some p
down_by below fits p (Some []) = None
down_by below fits p (Some (child ∷ others)) = if fits child then below child else None

unfoldable pub down_in : ℕ → File → ℕ → Option ℕ
down_in zero file p = None
down_in (suc levels) file p = down_by (down_in levels file) (fits_below file p) p (children_in (page_at file p))

-- the end of the way down from a root; a level is a byte, and falls by one from page to page
unfoldable pub down : File → ℕ → Option ℕ
down file root = if root == 0 then None else down_in 255 file root

-- a leaf as a list of it alone, where a whole row of leaves of its type begins there
abbrev pub row_from : File → Option ℕ → List ℕ
row_from file None = []
row_from file (Some leaf) = if is_row file (is_like (page_at file leaf)) leaf then leaf ∷ [] else []

-- the first leaf of the set with this root, as a list of it alone; none where the set isn't whole
unfoldable pub set_start : File → ℕ → List ℕ
set_start file root = row_from file (down file root)

-- the leaves of a set, from left to right; none where it isn't whole
abbrev pub whole_set : File → ℕ → List ℕ
whole_set file root = flat_map (chain file) (set_start file root)

-- Values and pairs.

-- the value of an item, as a list of it alone; none where its chain isn't whole
unfoldable pub whole_values : File → Content → List (List ℕ)
whole_values file (Inline bytes) = bytes ∷ []
whole_values file (Set blocks) = []
whole_values file (Chain head total) = if is_whole file head total then joined (pieces_of file head) ∷ [] else []
whole_values file (Tree root) = []
whole_values file Unknown = []

abbrev pub live_value : File → Item → List (List ℕ)
live_value file item = if item.deleted then [] else whole_values file item.content

-- the whole values of the live entries of a page of records or of sorted data
unfoldable pub live_whole : File → ℕ → List (List ℕ)
live_whole file p = flat_map (live_value file) (entries_in (page_at file p))

-- the data of a data item that are whole
unfoldable pub whole_data : File → Content → List (List ℕ)
whole_data file (Inline bytes) = bytes ∷ []
whole_data file (Set blocks) = blocks
whole_data file (Chain head total) = whole_values file (Chain head total)
whole_data file (Tree root) = flat_map (live_whole file) (whole_set file root)
whole_data file Unknown = []

-- a pair: the items of its key and of its data
pub record ItemPair : Type 0 where
  pub key : Item
  pub value : Item

-- the items of a page that holds pairs: a key at an even index, its data at the next
abbrev pub paired_items : Page → List Item
paired_items (Leaf page) = page.items
paired_items (Hash page) = page.items
paired_items page = []

-- the pair at a place
abbrev pub pair_in : List Item → ℕ → ItemPair
pair_in items i = record { key = get_or items (2 * i) no_item; value = get_or items (2 * i + 1) no_item }

-- the pairs of a page, live or deleted
abbrev pub item_pairs : Page → List ItemPair
item_pairs page = map (pair_in (paired_items page)) (range_with_len 0 (length (paired_items page) / 2))

-- a pair whose data item is live gives its key with each of its data
unfoldable pub stored_pair : File → ItemPair → List (List ℕ × List ℕ)
stored_pair file pair =
    if pair.value.deleted then []
    else flat_map (λ bytes. map (λ value. (bytes, value)) (whole_data file pair.value.content)) (whole_values file pair.key.content)

abbrev pub stored_on : File → ℕ → List (List ℕ × List ℕ)
stored_on file p = flat_map (stored_pair file) (item_pairs (page_at file p))

-- the stored pairs, in the order of page, slot and place
unfoldable pub stored : File → List (List ℕ × List ℕ)
stored file = flat_map (stored_on file) (range_with_len 0 file.count)

-- The loose records.

abbrev pub start_in : File → Content → List ℕ
start_in file (Tree root) = set_start file root
start_in file content = []

-- the first leaf of the set of a pair, live or deleted, whose key is whole
abbrev pub pair_start : File → ItemPair → List ℕ
pair_start file pair = flat_map (λ (bytes : List ℕ). start_in file pair.value.content) (whole_values file pair.key.content)

-- the first leaves of the whole sets of pairs with a whole key
unfoldable pub set_starts : File → List ℕ
set_starts file = flat_map (λ p. flat_map (pair_start file) (item_pairs (page_at file p))) (range_with_len 0 file.count)

-- a page is a leaf of a whole set of a pair with a whole key
unfoldable pub is_taken : File → ℕ → Bool
is_taken file p = list_any (λ leaf. leaf == p) (flat_map (chain file) (set_starts file))

abbrev pub loose_on : File → ℕ → List (List ℕ)
loose_on file p = if is_taken file p then [] else live_whole file p

-- the loose records, in the order of page and slot
unfoldable pub loose : File → List (List ℕ)
loose file = flat_map (loose_on file) (range_with_len 0 file.count)
