-- Pages of a table that is being built: what their items take of them, and the page that holds them. Source: docs/FORMAT.md, "Hash items".
use Rattle.std.specs.Prelude.{◌≡◌, ℕ, ◌+◌, ◌-◌, ◌%◌, ◌≤◌, List, length, map, None}
use Rattle.std.specs.List.{sum_by}
use Rattle.bdb_mktree.specs.of_format.declared.kinds.Order.{Order}
use Rattle.bdb_mktree.specs.of_format.declared.pages.Header.{Header}
use Rattle.bdb_mktree.specs.of_format.Terms.{Content, File, Hash, Item, Listed, abstract_page, byte_at, four_at, hash_bytes, index_end, overwritten, page_at}
use Rattle.bdb_mktree.specs.of_format.Terms.{page_code, spelled}
use Rattle.bdb_mktree.specs.of_pack.Built.{Built, bytes_of, with_page, with_zeros}
use Rattle.bdb_mktree.specs.of_pack.Items.{HasPlace, IsWritable, OnHash}
use Rattle.bdb_mktree.specs.of_pack.Placing.{IsBegun, begun_page, high_free_of}
use Rattle.bdb_law_buckets.specs.Pages.{IsHashIn, hash_item}

-- the bytes that an item takes of its page: two of the index, and its own
abbrev pub content_cost : Order → Content → ℕ
content_cost order content = 2 + length (hash_bytes order content)

-- the bytes that are free between the index and the items
abbrev pub room_of : Order → List ℕ → ℕ
room_of order page = high_free_of order page - index_end order page

-- A page is one of a table that takes items, with its number, between two others of its bucket, and holds these items. Its type says that they are
-- in no order.
pub record HoldsContents (order : Order) (bytes : List ℕ) (p previous next : ℕ) (contents : List Content) : Type 0 where
  pub begun : IsBegun order bytes
  pub type_is : byte_at bytes 25 ≡ 2
  pub number : four_at order bytes 8 ≡ p
  pub before : four_at order bytes 12 ≡ previous
  pub after : four_at order bytes 16 ≡ next
  pub page : Listed Item
  pub is : abstract_page order bytes ≡ Hash page
  pub items : page.items ≡ map hash_item contents
  pub room : room_of order bytes + sum_by (content_cost order) contents ≡ length bytes - 26

-- it does in its place among the pages
abbrev pub HoldsContentsOn : Built → ℕ → ℕ → ℕ → List Content → Type 0
HoldsContentsOn built p previous next contents = HoldsContents built.order (bytes_of built p) p previous next contents

-- a page takes an item at its end: the item fits its fields, has its place there, and there is room for it and its entry
pub record CanTakeContent (built : Built) (p : ℕ) (content : Content) : Type 0 where
  pub previous : ℕ
  pub next : ℕ
  pub contents : List Content
  pub holds : HoldsContentsOn built p previous next contents
  pub fits : IsWritable (OnHash content)
  pub place : HasPlace 2 (length contents) (OnHash content)
  pub room : content_cost built.order content ≤ room_of built.order (bytes_of built p)

-- the header of a page that is added after another one of its bucket: it has no next page yet
abbrev pub page_header : ℕ → ℕ → Header
page_header number previous =
    record { number = number; previous = previous; next = 0; entries = 0; high_free = 0; level = 0; page_type = 2 }

-- the pages with such a page at their end
abbrev pub with_hash_page : Built → ℕ → Built
with_hash_page built previous =
    let number : ℕ = length built.pages in
    with_page (with_zeros built) number (begun_page built.order (bytes_of (with_zeros built) number) (page_header number previous))

-- a page whose header names another next page
abbrev pub with_next : Order → List ℕ → ℕ → List ℕ
with_next order page next = overwritten page 16 (spelled 4 order next)

-- The laws.

-- a page that holds whole pairs has no row of form
abbrev pub HashPagesAreFormed : Type 0
HashPagesAreFormed =
    (order : Order) (bytes : List ℕ) (p previous next : ℕ) (contents : List Content) → HoldsContents order bytes p previous next contents
    → length contents % 2 ≡ 0 → page_code order p bytes ≡ None

-- in each file that keeps it, it is a page with these items
abbrev pub HashPagesStand : Type 0
HashPagesStand =
    (built : Built) (p previous next : ℕ) (contents : List Content) (g : File) → HoldsContentsOn built p previous next contents
    → page_at g p ≡ abstract_page built.order (bytes_of built p) → IsHashIn g p previous next contents
