-- A pair of a table with the file that it stands in. Source: docs/FORMAT.md, "Items".
use Rattle.std.specs.Prelude.{◌≡◌, ◌≤◌, ℕ, ◌+◌, ◌==◌, not, if◌then◌else◌, Bool, true, false, List, [], map, length, Option, Some, None}
use Rattle.std.specs.List.{find, flat_map, range_with_len}
use Rattle.bdb_tree.specs.of_form.Pairs.{PairOf}
use Rattle.bdb_tree.specs.of_format.Terms.{BytesKey, Content, File, Hash, Item, ListKey, Page, StoredPair, Zero, bucket_pages, chain_in, file_of, listed_pair}
use Rattle.bdb_tree.specs.of_format.Terms.{pairs_of, value_of}
use Rattle.bdb_tree.specs.of_format.declared.metadata.HashMeta.{HashMeta}
use Rattle.std.specs.declared.cmp.Ordering.{Ordering}
use Rattle.std.specs.Cmp.Lexicographic.{slice_cmp}
use Rattle.std.specs.Ordering.{nat_cmp}
use Rattle.std.specs.Str.{bytes_eq}

-- a pair, and the bytes of its file
pub record Told : Type 0 where
  pub image : List ℕ
  pub pair : StoredPair

abbrev pub told : List ℕ → StoredPair → Told
told image pair = record { image = image; pair = pair }

-- pairs without their file
abbrev pub stored : List Told → List StoredPair
stored pairs = map (λ (told : Told). told.pair) pairs

abbrev pub key_of : StoredPair → List ℕ
key_of pair = pair.key

-- a pair of a page, by its key and what its data item holds
abbrev pub told_as : List ℕ → ℕ → List ℕ → Content → Told
told_as image p key content = told image (record { page = p; key = key; data_item = content; live = true; shares = false })

-- a pair as the view of its page gives it
abbrev pub told_pair : List ℕ → ℕ → PairOf Item → Told
told_pair image p pair = told image (record {
  page = p;
  key = value_of (file_of image) pair.key.content;
  data_item = pair.value.content;
  live = not pair.value.deleted;
  shares = false;
})

-- the pairs of a page
abbrev pub page_told : List ℕ → ℕ → List Told
page_told image p = map (told image) (pairs_of (file_of image) p)

-- the pairs that are left on a page; a zero page has none
abbrev pub left_on : List ℕ → ℕ → Option (List (PairOf Item)) → List Told
left_on image p None = []
left_on image p (Some pairs) = map (told_pair image p) pairs

-- the pages from a page on, in so many turns; page 0 stands for the end
abbrev pub pages_from : ℕ → File → ℕ → List ℕ
pages_from turns file p = if p == 0 then [] else chain_in turns file p

-- a page of a bucket is a zero page or a hash page
abbrev pub is_of_bucket : Page → Bool
is_of_bucket Zero = true
is_of_bucket (Hash page) = true
is_of_bucket page = false

-- the pairs of pages, one page after another
abbrev pub joined_pages : List (List Told) → List Told
joined_pages pages = flat_map (λ page. page) pages

-- the pairs of a bucket, and those of all buckets
abbrev pub bucket_told : List ℕ → HashMeta → ℕ → List Told
bucket_told image meta b = joined_pages (map (page_told image) (bucket_pages (file_of image) meta b))

abbrev pub table_told : List ℕ → HashMeta → List Told
table_told image meta = flat_map (bucket_told image meta) (range_with_len 0 (meta.max_bucket + 1))

-- a pair has this key
abbrev pub has_key : List ℕ → Told → Bool
has_key key told = bytes_eq told.pair.key key

-- what a pair lists, where it's live
abbrev pub listed_told : Told → List (ListKey × List ℕ)
listed_told told = listed_pair (file_of told.image) told.pair

-- a key with each of its data
abbrev pub entry_list : List ℕ → List (List ℕ) → List (ListKey × List ℕ)
entry_list key values = map (λ value. (BytesKey key, value)) values

-- pairs are compared by their keys
abbrev pub told_cmp : Told → Told → Ordering
told_cmp a b = slice_cmp nat_cmp a.pair.key b.pair.key

-- no page passed has a pair with this key, and there are steps left for all pages that are left
pub record IsSought (key : List ℕ) (all : List Told) (left : List (List Told)) (most steps : ℕ) : Type 0 where
  pub same : find (has_key key) (joined_pages left) ≡ find (has_key key) all
  pub few : steps + length left ≤ most
