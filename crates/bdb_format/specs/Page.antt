-- A page without the order of its bytes. Source: docs/FORMAT.md, "Other pages" and "Items".
use Rattle.std.specs.Prelude.{ℕ, Bool, List}
use Rattle.bdb_format.specs.declared.pages.Header.{Header}
use Rattle.bdb_format.specs.declared.pages.RecnoItem.{RecnoItem}
use Rattle.bdb_format.specs.declared.metadata.BtreeMeta.{BtreeMeta}
use Rattle.bdb_format.specs.declared.metadata.HashMeta.{HashMeta}
use Rattle.bdb_format.specs.declared.metadata.QueueMeta.{QueueMeta}

-- what an item holds: bytes, a set of blocks, a chain by its head and total length, a set off the page by its root
pub data Content : Type 0 where
  Inline : List ℕ → Content
  Set : List (List ℕ) → Content
  Chain : ℕ → ℕ → Content
  Tree : ℕ → Content
  Unknown : Content

-- an item of a leaf or a hash page
pub record Item : Type 0 where
  pub content : Content
  pub deleted : Bool

-- an item of an internal page with keys
pub record InternalItem : Type 0 where
  pub child : ℕ
  pub count : ℕ
  pub key : Content

-- a page with an index: its header, the offsets of its index, and its items in that order
pub record Listed (I : Type 0) : Type 0 where
  pub header : Header
  pub offsets : List ℕ
  pub items : List I

-- metadata by its fields
pub data Metadata : Type 0 where
  BtreeFields : BtreeMeta → Metadata
  HashFields : HashMeta → Metadata
  QueueFields : QueueMeta → Metadata

-- a page of any type
pub data Page : Type 0 where
  Zero : Page
  Free : Header → Page
  Meta : Metadata → Page
  Hash : Listed Item → Page
  Internal : Listed InternalItem → Page
  RecnoInternal : Listed RecnoItem → Page
  Leaf : Listed Item → Page
  RecnoLeaf : Listed Item → Page
  DupLeaf : Listed Item → Page
  Overflow : Header → List ℕ → Page
  Queue : ℕ → List ℕ → Page
  NoType : Page
