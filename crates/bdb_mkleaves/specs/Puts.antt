-- A value that is put on the last leaf: in its item, or in a chain behind all pages. Source: docs/FORMAT.md, "Stored values".
use Rattle.std.specs.Prelude.{◌≡◌, ℕ, ◌+◌, ◌/◌, ◌<◌, ◌≤◌, Bool, List, [], ◌∷◌, ◌++◌, length, None}
use Rattle.bdb_places.specs.of_format.declared.kinds.Order.{Order}
use Rattle.bdb_places.specs.of_format.Terms.{Chain, Content, File, Inline, Item, Set, Tree, Unknown, page_code}
use Rattle.bdb_pack.specs.of_law_grove.Growing.{IsCounted, IsLater}
use Rattle.bdb_pack.specs.of_law_grove.Part.{between}
use Rattle.bdb_pack.specs.Built.{Built, bytes_of, file_so_far}
use Rattle.bdb_pack.specs.Items.{HasPlace, IsWritable, OnLeaf}
use Rattle.bdb_pack.specs.Stored.{StandsIn}
use Rattle.bdb_mkleaves.specs.Inner.{CountsOne}
use Rattle.bdb_mkleaves.specs.LeafEntries.{Entry, item_cost, own_entry}
use Rattle.bdb_mkleaves.specs.Leaves.{AreLeaves, KeepsAll, KeepsOthers}
use Rattle.bdb_mkleaves.specs.Units.{chain_pages, value_cost}
use Rattle.bdb_mkleaves.specs.declared.leaves.Leaves.{Leaves}

-- a content holds a value in a file, in the item or in a chain of the pages from one number up to another
abbrev pub ValueStands : File → ℕ → ℕ → ℕ → Content → List ℕ → Type 0
ValueStands g size first beyond (Inline bytes) value = (bytes ≡ value) × (length value ≤ size / 8) × (beyond ≡ first)
ValueStands g size first beyond (Chain head total) value =
    (size / 8 < length value) × (total ≡ length value) × (head ≡ first) × StandsIn g size value head beyond
ValueStands g size first beyond (Set blocks) value = ⊥
ValueStands g size first beyond (Tree root) value = ⊥
ValueStands g size first beyond Unknown value = ⊥

-- the first page of a chain that a content names is there, from a number on, and counts one reference
abbrev pub CountsOneFrom : ℕ → Built → Content → Type 0
CountsOneFrom low built (Inline bytes) = Unit {0}
CountsOneFrom low built (Chain head total) = (low ≤ head) × (head < length built.pages) × CountsOne built.order (bytes_of built head)
CountsOneFrom low built (Set blocks) = Unit {0}
CountsOneFrom low built (Tree root) = Unit {0}
CountsOneFrom low built Unknown = Unit {0}

-- an item for a value, which is stored in a chain behind all pages where it's long
pub record IsItemOf (old new : Built) (value : List ℕ) (deleted : Bool) (item : Item) : Type 0 where
  pub deleted_is : item.deleted ≡ deleted
  pub fits : IsWritable (OnLeaf item)
  pub place : (type index : ℕ) → HasPlace type index (OnLeaf item)
  pub cost : (order : Order) → item_cost order item ≡ value_cost old.size value
  pub kept : KeepsAll old new
  pub stands : (g : File) → IsCounted g → IsLater (between (length old.pages) (length new.pages)) (file_so_far new) g
      → ValueStands g old.size (length old.pages) (length new.pages) item.content value
  pub formed : (p : ℕ) → length old.pages ≤ p → p < length new.pages → page_code new.order p (bytes_of new p) ≡ None
  pub heads : CountsOneFrom (length old.pages) new item.content
  pub count : length new.pages ≡ length old.pages + chain_pages old.size value

-- entries that a leaf gets at its end, while no other page changes
pub record IsGrown (leaves : Leaves) (old new : Built) (entry : List Entry → Entry) : Type 0 where
  pub kept : KeepsOthers leaves.last old new
  pub long : length (bytes_of new leaves.last) ≡ length (bytes_of old leaves.last)
  pub hold : (closed : List (List Entry)) (entries : List Entry) → AreLeaves leaves old closed entries
      → AreLeaves leaves new closed (entries ++ (entry entries ∷ []))

-- a value is put on the last leaf: its item is stored, and added
pub record IsPut (leaves : Leaves) (old new : Built) (value : List ℕ) (deleted : Bool) : Type 0 where
  pub between : Built
  pub item : Item
  pub stored : IsItemOf old between value deleted item
  pub grown : IsGrown leaves between new (λ entries. own_entry item)
  pub count : length new.pages ≡ length between.pages
