-- Sets of the data of a key: leaves that are filled with them, and the tree that is laid over these. Source: docs/FORMAT.md, "Built trees".
use Rattle.std.specs.Prelude.{◌≡◌, ◌⊎◌, ℕ, ◌+◌, ◌<◌, ◌≤◌, Bool, true, false, List, [], ◌∷◌, ◌++◌, length, map, None}
use Rattle.std.specs.List.{flat_map, sum_by}
use Rattle.bdb_places.specs.of_format.Terms.{File, Item, Tree, data_of, is_wrong_set, page_code}
use Rattle.bdb_pack.specs.of_law_grove.Growing.{IsCounted, IsLater}
use Rattle.bdb_pack.specs.of_law_grove.Part.{between}
use Rattle.bdb_pack.specs.Built.{Built, bytes_of, file_so_far}
use Rattle.bdb_mkleaves.specs.Filled.{AreFilled, AreSpreadOver, IsPushed, IsUnitPut, StandOn, leaves_added, rest_of}
use Rattle.bdb_mkleaves.specs.Layout.{IsTreeOn, live_entry}
use Rattle.bdb_mkleaves.specs.Leaves.{KeepsAll}
use Rattle.bdb_mkleaves.specs.Placed.{Placed, PlacedTree, has_wrong_root, unit_of}
use Rattle.bdb_mkleaves.specs.Spread.{own_pages, set_pages}
pub use Rattle.bdb_mkleaves.specs.Spread.{set_type}
use Rattle.bdb_mkleaves.specs.Units.{KeyedUnit, TreeUnit, chain_pages}
use Rattle.bdb_mkleaves.specs.declared.leaf_type.LeafType.{LeafType}
use Rattle.bdb_mkleaves.specs.declared.leaves.Leaves.{Leaves}

-- Behind the pages that stood are leaves with these values, each of them live.
pub record IsSetFilled (old new : Built) (type : LeafType) (values : List (List ℕ)) (leaves : Leaves) : Type 0 where
  pub type_is : leaves.leaf_type ≡ type
  pub kept : KeepsAll old new
  pub closed : List (List Placed)
  pub units : List Placed
  pub filled : AreFilled leaves new (length old.pages) closed units
  pub some : (closed ≡ []) ⊎ (0 < length units)
  pub units_are : map unit_of (flat_map (λ leaf. leaf) closed ++ units) ≡ map live_entry values
  pub spread : AreSpreadOver new.size closed units
  pub count : length new.pages ≡ length old.pages + (length closed + 1) + sum_by (chain_pages old.size) values

-- in a file the pages from one number up to another are a set with these values, which stands where a datum names its root
pub record SetStands (g : File) (first beyond : ℕ) (sorted : Bool) (values : List (List ℕ)) (root : ℕ) : Type 0 where
  pub on : StandOn g (between first beyond) (Tree root ∷ [])
  pub holds : data_of g (Tree root) ≡ values
  pub right : is_wrong_set g sorted (Tree root) ≡ false

-- Behind the pages that stood are those of a set, which stands in each later file.
pub record IsSetBuilt (old new : Built) (sorted : Bool) (values : List (List ℕ)) (root : ℕ) : Type 0 where
  pub kept : KeepsAll old new
  pub low : length old.pages ≤ root
  pub high : root < length new.pages
  pub formed : (p : ℕ) → length old.pages ≤ p → p < length new.pages → page_code new.order p (bytes_of new p) ≡ None
  pub stands : (g : File) → IsCounted g → IsLater (between (length old.pages) (length new.pages)) (file_so_far new) g
      → SetStands g (length old.pages) (length new.pages) sorted values root
  pub count : length new.pages ≡ length old.pages + set_pages old.size sorted values
  pub tree : IsTreeOn (set_type sorted) new (between (length old.pages) (length new.pages)) true (map live_entry values) root

-- A key whose data have a tree of their own is put on the last leaf.
pub record IsTreePut (leaves : Leaves) (old new : Built) (sorted : Bool) (key : List ℕ) (values : List (List ℕ)) : Type 0 where
  pub key_item : Item
  pub key_live : key_item.deleted ≡ false
  pub root : ℕ
  pub put : IsUnitPut leaves old new (PlacedTree (record { item = key_item; value = key }) root values)
  pub right : (g : File) → IsCounted g → IsLater (between (length old.pages) (length new.pages)) (file_so_far new) g
      → is_wrong_set g sorted (Tree root) ≡ false
  pub count : length new.pages ≡ length old.pages + own_pages old.size sorted (KeyedUnit key values)

-- A key with its data is pushed; where these have a tree, its root is of the right type in each later file.
pub record IsKeyedPushed (leaves next : Leaves) (old new : Built) (sorted : Bool) (unit : TreeUnit) : Type 0 where
  pub pushed : IsPushed leaves next old new unit
  pub right : (before : ℕ) (closed : List (List Placed)) (units : List Placed) → AreFilled leaves old before closed units
      → (g : File) → IsCounted g → IsLater (rest_of before next new) (file_so_far new) g → has_wrong_root g sorted pushed.placed ≡ false
  pub count : length new.pages ≡ length old.pages + leaves_added leaves old unit + own_pages old.size sorted unit
