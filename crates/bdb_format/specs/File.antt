-- A file as its pages: from here on no definition looks at bytes, or at their order. Source: docs/FORMAT.md, "References".
use Rattle.std.specs.Prelude.{ℕ, ◌+◌, ◌-◌, ◌*◌, ◌/◌, List, length, map, take, drop, get_or, Option, Some, None}
use Rattle.std.specs.List.{range_with_len}
use Rattle.bdb_format.specs.declared.kinds.Order.{Order}
use Rattle.bdb_format.specs.declared.metadata.FileKind.{FileKind}
use Rattle.bdb_format.specs.declared.metadata.FileKind.TheVariants.{Btree, Hash as HashFile, Queue as QueueFile}
use Rattle.bdb_format.specs.declared.metadata.Head.{Head}
use Rattle.bdb_format.specs.declared.pages.Header.{Header}
use Rattle.bdb_format.specs.HeadOf.{head_of}
use Rattle.bdb_format.specs.Page.{Metadata, BtreeFields, HashFields, QueueFields, Page, Zero, Free, Meta, Hash, Internal, RecnoInternal, Leaf, RecnoLeaf}
use Rattle.bdb_format.specs.Page.{DupLeaf, Overflow, Queue, NoType}
use Rattle.bdb_format.specs.Reading.{abstract_page}
use Rattle.bdb_format.specs.Rows.{type_of}

pub record File : Type 0 where
  pub kind : FileKind
  -- bytes of a page
  pub size : ℕ
  -- how many whole pages there are
  pub count : ℕ
  -- the last page
  pub last : ℕ
  -- the pages from 0 to the last
  pub pages : List Page

-- the bytes of a page
abbrev pub page_bytes : Head → List ℕ → ℕ → List ℕ
page_bytes head image p = take head.page_size (drop (p * head.page_size) image)

-- the file that an image stands for
unfoldable pub file_of : List ℕ → File
file_of image =
    let head : Head = head_of image in
    record {
      kind = head.kind;
      size = head.page_size;
      count = head.pages;
      last = head.last;
      pages = map (λ p. abstract_page head.order (page_bytes head image p)) (range_with_len 0 (head.last + 1));
    }

-- the whole pages of an image, read in an order and with a page size that are given
unfoldable pub file_as : Order → ℕ → List ℕ → File
file_as order size image = record {
  kind = Btree;
  size = size;
  count = length image / size;
  last = length image / size - 1;
  pages = map (λ p. abstract_page order (take size (drop (p * size) image))) (range_with_len 0 (length image / size));
}

abbrev pub page_at : File → ℕ → Page
page_at file p = get_or file.pages p NoType

-- a header whose fields are all 0
abbrev pub no_header : Header
no_header = record { number = 0; previous = 0; next = 0; entries = 0; high_free = 0; level = 0; page_type = 0 }

-- the header of a page that has one
abbrev pub header_in : Page → Header
header_in Zero = no_header
header_in (Free header) = header
header_in (Meta fields) = no_header
header_in (Hash page) = page.header
header_in (Internal page) = page.header
header_in (RecnoInternal page) = page.header
header_in (Leaf page) = page.header
header_in (RecnoLeaf page) = page.header
header_in (DupLeaf page) = page.header
header_in (Overflow header piece) = header
header_in (Queue number records) = no_header
header_in NoType = no_header

-- the kind of a file that has this metadata on page 0
abbrev pub kind_in : Metadata → FileKind
kind_in (BtreeFields meta) = Btree
kind_in (HashFields meta) = HashFile
kind_in (QueueFields meta) = QueueFile

-- the type of a page; a zero page has none
abbrev pub type_in : Page → Option ℕ
type_in Zero = None
type_in (Free header) = Some 0
type_in (Meta fields) = Some (type_of (kind_in fields))
type_in (Hash page) = Some page.header.page_type
type_in (Internal page) = Some 3
type_in (RecnoInternal page) = Some 4
type_in (Leaf page) = Some 5
type_in (RecnoLeaf page) = Some 6
type_in (DupLeaf page) = Some 12
type_in (Overflow header piece) = Some 7
type_in (Queue number records) = Some 11
type_in NoType = None
