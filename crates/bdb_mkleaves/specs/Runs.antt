-- Entries that are put on the last leaf one after the other, with the chains of their values behind all pages.
-- Source: docs/FORMAT.md, "Leaf items" and "Stored values".
use Rattle.std.specs.Prelude.{◌≡◌, ℕ, ◌+◌, ◌%◌, ◌^◌, ◌<◌, ◌≤◌, false, List, [], ◌∷◌, ◌++◌, length, map, None}
use Rattle.std.specs.List.{All, flat_map, sum_by}
use Rattle.bdb_places.specs.of_format.declared.kinds.Order.{Order}
use Rattle.bdb_places.specs.of_format.Terms.{Content, File, Item, page_code}
use Rattle.bdb_pack.specs.of_law_grove.Growing.{IsCounted, IsLater}
use Rattle.bdb_pack.specs.of_law_grove.Part.{between}
use Rattle.bdb_pack.specs.Built.{Built, bytes_of, file_so_far}
use Rattle.bdb_mkleaves.specs.LeafEntries.{Entry, entry_cost, own_entry, room_of, shared_entry}
use Rattle.bdb_mkleaves.specs.Leaves.{AreLeaves, KeepsOthers}
use Rattle.bdb_mkleaves.specs.Placed.{ValueItem}
use Rattle.bdb_mkleaves.specs.Puts.{CountsOneFrom, ValueStands}
use Rattle.bdb_mkleaves.specs.Units.{chain_pages, value_cost}
use Rattle.bdb_mkleaves.specs.declared.leaf_type.LeafType.TheVariants.{Pairs}
use Rattle.bdb_mkleaves.specs.declared.leaves.Leaves.{Leaves}

-- contents hold their values in a file, one after the other: their chains are the pages from one number up to another
abbrev pub ValuesStand : File → ℕ → ℕ → ℕ → List (Content × List ℕ) → Type 0
ValuesStand g size first beyond [] = beyond ≡ first
ValuesStand g size first beyond (held ∷ more) =
    (middle : ℕ) × (first ≤ middle) × (middle ≤ beyond) × ValueStands g size first middle held.0 held.1 × ValuesStand g size middle beyond more

-- Entries are added to the last leaf, and these contents are stored behind all pages, while no other page changes.
pub record IsRunPut (leaves : Leaves) (old new : Built) (added : List Entry) (held : List (Content × List ℕ)) : Type 0 where
  pub kept : KeepsOthers leaves.last old new
  pub hold : (closed : List (List Entry)) (entries : List Entry) → AreLeaves leaves old closed entries
      → AreLeaves leaves new closed (entries ++ added)
  pub room : room_of new.order (bytes_of new leaves.last) + sum_by (entry_cost old.order) added ≡ room_of old.order (bytes_of old leaves.last)
  pub stands : (g : File) → IsCounted g → IsLater (between (length old.pages) (length new.pages)) (file_so_far new) g
      → ValuesStand g old.size (length old.pages) (length new.pages) held
  pub formed : (p : ℕ) → length old.pages ≤ p → p < length new.pages → page_code new.order p (bytes_of new p) ≡ None
  pub heads : All (λ (one : Content × List ℕ). CountsOneFrom (length old.pages) new one.0) held
  pub count : length new.pages ≡ length old.pages + sum_by (λ (one : Content × List ℕ). chain_pages old.size one.1) held

-- a datum's item with its value
abbrev pub held_by_item : ValueItem → Content × List ℕ
held_by_item datum = (datum.item.content, datum.value)

-- the entries of a key with its data: the key, its first datum, and for each other the key once more
abbrev pub more_entries : Item → List ValueItem → List Entry
more_entries key others = flat_map (λ (datum : ValueItem). shared_entry key ∷ own_entry datum.item ∷ []) others

abbrev pub pair_entries : Item → Item → List ValueItem → List Entry
pair_entries key first more = own_entry key ∷ own_entry first ∷ more_entries key more

-- a live item of which the cost is that of its value
pub record IsLiveItem (size : ℕ) (item : Item) (value : List ℕ) : Type 0 where
  pub live : item.deleted ≡ false
  pub cost : (order : Order) → entry_cost order (own_entry item) ≡ 2 + value_cost size value

-- a key with its data is put on the last leaf
pub record ArePairsPut (leaves : Leaves) (old new : Built) (key first : List ℕ) (more : List (List ℕ)) : Type 0 where
  pub key_item : Item
  pub first_item : Item
  pub others : List ValueItem
  pub values : map (λ (datum : ValueItem). datum.value) others ≡ more
  pub key_live : IsLiveItem old.size key_item key
  pub first_live : IsLiveItem old.size first_item first
  pub others_live : All (λ (datum : ValueItem). IsLiveItem old.size datum.item datum.value) others
  pub run : IsRunPut leaves old new (pair_entries key_item first_item others)
      ((key_item.content, key) ∷ (first_item.content, first) ∷ map held_by_item others)

-- what each datum after the first takes of a leaf
abbrev pub more_cost : ℕ → List (List ℕ) → ℕ
more_cost size values = sum_by (λ value. 4 + value_cost size value) values

-- what a key with its data takes of it
abbrev pub pairs_cost : ℕ → List ℕ → List ℕ → List (List ℕ) → ℕ
pairs_cost size key first more = 4 + value_cost size key + value_cost size first + more_cost size more

-- the length of a value fits its field
abbrev pub IsShort : List ℕ → Type 0
IsShort value = length value < 2 ^ 32

-- the leaves are those of pairs, and the last one has whole ones
pub record HasWholePairs (leaves : Leaves) (built : Built) : Type 0 where
  pub type : leaves.leaf_type ≡ Pairs
  pub closed : List (List Entry)
  pub entries : List Entry
  pub hold : AreLeaves leaves built closed entries
  pub even : length entries % 2 ≡ 0
