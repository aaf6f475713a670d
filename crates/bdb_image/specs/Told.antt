-- The type of a page, by its bytes. Source: docs/FORMAT.md, "Other pages".
use Rattle.std.specs.Prelude.{◌≡◌, ◌≤◌, ℕ, Bool, true, false, List, length, Option, Some, None}
use Rattle.bdb_faults.specs.of_format.declared.kinds.Order.{Order}
use Rattle.bdb_faults.specs.of_format.declared.pages.PageType.{PageType}
use Rattle.bdb_faults.specs.of_format.declared.pages.PageType.TheVariants.{Overflow, HashMeta, BtreeMeta, QueueMeta, Queue, Other}
use Rattle.bdb_faults.specs.of_format.Terms.{Page, Zero, byte_at, is_zero, page_as, page_type}

-- a zero page tells no type
abbrev pub type_unless : Bool → PageType → Option PageType
type_unless true t = None
type_unless false t = Some t

abbrev pub told_type : List ℕ → Option PageType
told_type page = type_unless (is_zero page) (page_type (byte_at page 25))

-- the page that tells this type
abbrev pub page_told : Order → List ℕ → Option PageType → Page
page_told order page None = Zero
page_told order page (Some t) = page_as order page t

-- the type byte of a page that tells this type, where it's supported
abbrev pub told_byte : ℕ → Option PageType → Option ℕ
told_byte byte None = None
told_byte byte (Some Other) = None
told_byte byte (Some t) = Some byte

-- pages of this type begin with the fields of a header: it's no zero page, metadata or page of a queue
abbrev pub is_headed : Option PageType → Bool
is_headed None = false
is_headed (Some HashMeta) = false
is_headed (Some BtreeMeta) = false
is_headed (Some QueueMeta) = false
is_headed (Some Queue) = false
is_headed (Some Other) = false
is_headed (Some t) = true

-- it's the type of a page of a chain
abbrev pub is_chain : Option PageType → Bool
is_chain (Some Overflow) = true
is_chain type = false

-- it's the type of metadata
abbrev pub is_metadata : Option PageType → Bool
is_metadata (Some HashMeta) = true
is_metadata (Some BtreeMeta) = true
is_metadata (Some QueueMeta) = true
is_metadata type = false

-- the bytes of a page, and the type that they tell
pub record IsLooked (page : List ℕ) (type : Option PageType) : Type 0 where
  pub room : 512 ≤ length page
  pub type_is : type ≡ told_type page
