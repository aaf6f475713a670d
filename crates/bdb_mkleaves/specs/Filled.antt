-- What a unit that is put on a leaf leaves behind: its entries there, and pages of its own behind all others. Source: docs/FORMAT.md, "Built trees".
use Rattle.std.specs.Prelude.{◌≡◌, ◌⊎◌, ℕ, ◌+◌, ◌<◌, ◌≤◌, ◌&&◌, not, if◌then◌else◌, Bool, true, false, List, [], ◌∷◌, ◌++◌, length, map, None}
use Rattle.std.specs.List.{All, flat_map}
use Rattle.bdb_places.specs.of_format.Terms.{Content, File, is_page_size, page_code}
use Rattle.bdb_pack.specs.of_law_grove.Growing.{IsCounted, IsLater}
use Rattle.bdb_pack.specs.of_law_grove.Leaves.{AscendIn, ContentFits, content_pages}
use Rattle.bdb_pack.specs.of_law_grove.Part.{IsBranch, between}
use Rattle.bdb_law_levels.specs.Roots.{is_of}
use Rattle.bdb_pack.specs.Built.{AreWhole, Built, bytes_of, file_so_far}
use Rattle.bdb_mkleaves.specs.Layout.{HasTreeOn}
use Rattle.bdb_mkleaves.specs.LeafEntries.{Entry, contents_of, room_of}
use Rattle.bdb_mkleaves.specs.Leaves.{AreLeaves, AreSomeLeaves, HasRoomNow, KeepsOthers, has_room}
use Rattle.bdb_mkleaves.specs.Moved.{first_leaf}
use Rattle.bdb_mkleaves.specs.Puts.{CountsOneFrom}
use Rattle.bdb_mkleaves.specs.Placed.{IsPlacedBySize, Placed, StandsPlaced, entries_of, unit_of}
use Rattle.bdb_mkleaves.specs.Runs.{HasWholePairs}
use Rattle.bdb_mkleaves.specs.Spread.{own_pages, spread_units}
use Rattle.bdb_mkleaves.specs.Units.{TreeUnit, page_room, unit_cost, unit_has_tree}
use Rattle.bdb_mkleaves.specs.declared.leaf_type.LeafType.{LeafType}
use Rattle.bdb_mkleaves.specs.declared.leaf_type.LeafType.TheVariants.{Pairs}
use Rattle.bdb_mkleaves.specs.declared.leaves.Leaves.{Leaves}

-- in a file these pages are what contents name: a branch that is entered by the pages that they name, in their order
pub record StandOn (g : File) (pages : ℕ → Bool) (contents : List Content) : Type 0 where
  pub branch : IsBranch g pages (flat_map content_pages contents)
  pub fit : All (ContentFits g) contents

-- what a unit holds on a leaf of a type
abbrev pub unit_contents : LeafType → Placed → List Content
unit_contents type unit = contents_of type (entries_of unit)

-- in a file a unit stands, with the pages from one number up to another behind it
pub record UnitStands (type : LeafType) (g : File) (size first beyond : ℕ) (unit : Placed) : Type 0 where
  pub on : StandOn g (between first beyond) (unit_contents type unit)
  pub placed : StandsPlaced type g unit

-- A unit is put on the last leaf.
pub record IsUnitPut (leaves : Leaves) (old new : Built) (unit : Placed) : Type 0 where
  pub kept : KeepsOthers leaves.last old new
  pub hold : (closed : List (List Entry)) (entries : List Entry) → AreLeaves leaves old closed entries
      → AreLeaves leaves new closed (entries ++ entries_of unit)
  pub ascend : AscendIn (length old.pages) (length new.pages) (flat_map content_pages (unit_contents leaves.leaf_type unit))
  pub stands : (g : File) → IsCounted g → IsLater (between (length old.pages) (length new.pages)) (file_so_far new) g
      → UnitStands leaves.leaf_type g old.size (length old.pages) (length new.pages) unit
  pub sizes : IsPlacedBySize old.size unit
  pub heads : All (CountsOneFrom (length old.pages) new) (unit_contents leaves.leaf_type unit)
  pub formed : (p : ℕ) → length old.pages ≤ p → p < length new.pages → page_code new.order p (bytes_of new p) ≡ None
  pub count : (sorted : Bool) → unit_has_tree old.size (unit_of unit) ≡ false
      → length new.pages ≡ length old.pages + own_pages old.size sorted (unit_of unit)
  pub tree : HasTreeOn new (between (length old.pages) (length new.pages)) (unit_contents leaves.leaf_type unit) unit

-- The leaves with the units that were put on them.

-- the pages from a number on that are no leaves
abbrev pub rest_of : ℕ → Leaves → Built → ℕ → Bool
rest_of before leaves built p = between before (length built.pages) p && not (is_of (leaves.closed.items ++ (leaves.last ∷ [])) p)

-- all units hold
abbrev pub all_contents : LeafType → List (List Placed) → List Placed → List Content
all_contents type closed units = flat_map (unit_contents type) (flat_map (λ leaf. leaf) closed ++ units)

-- in a file all units stand
pub record AllStand (type : LeafType) (g : File) (pages : ℕ → Bool) (closed : List (List Placed)) (units : List Placed) : Type 0 where
  pub on : StandOn g pages (all_contents type closed units)
  pub placed : All (StandsPlaced type g) (flat_map (λ leaf. leaf) closed ++ units)

-- Leaves that were begun at a page: these units are on the closed ones, and those on the last.
pub record AreFilled (leaves : Leaves) (built : Built) (before : ℕ) (closed : List (List Placed)) (units : List Placed) : Type 0 where
  pub hold : AreLeaves leaves built (map (flat_map entries_of) closed) (flat_map entries_of units)
  pub some : All (λ leaf. 0 < length leaf) closed
  pub low : 1 ≤ before
  pub new : (p : ℕ) → is_of (leaves.closed.items ++ (leaves.last ∷ [])) p ≡ true → before ≤ p
  pub ascend : AscendIn before (length built.pages) (flat_map content_pages (all_contents leaves.leaf_type closed units))
  pub stands : (g : File) → IsCounted g → IsLater (rest_of before leaves built) (file_so_far built) g
      → AllStand leaves.leaf_type g (rest_of before leaves built) closed units
  pub sizes : All (IsPlacedBySize built.size) (flat_map (λ leaf. leaf) closed ++ units)
  pub heads : All (CountsOneFrom before built) (all_contents leaves.leaf_type closed units)
  pub formed : (p : ℕ) → rest_of before leaves built p ≡ true → page_code built.order p (bytes_of built p) ≡ None
  pub trees : All (HasTreeOn built (rest_of before leaves built) (all_contents leaves.leaf_type closed units))
      (flat_map (λ leaf. leaf) closed ++ units)

-- some units; where there are several leaves the last has one too
pub record AreSomeFilled (leaves : Leaves) (built : Built) : Type 0 where
  pub before : ℕ
  pub closed : List (List Placed)
  pub units : List Placed
  pub filled : AreFilled leaves built before closed units
  pub some : (closed ≡ []) ⊎ (0 < length units)

-- a unit is on the last leaf, that of before, or a new one
abbrev pub FilledNow : Bool → Leaves → Built → ℕ → List (List Placed) → List Placed → Placed → Type 0
FilledNow true leaves built before closed units unit = AreFilled leaves built before closed (units ++ (unit ∷ []))
FilledNow false leaves built before closed units unit = AreFilled leaves built before (closed ++ (units ∷ [])) (unit ∷ [])

-- The last leaf, that of before or a new one, has room for so many bytes, which an empty one has.
pub record IsReady (leaves next : Leaves) (old one : Built) (cost : ℕ) : Type 0 where
  pub made : HasRoomNow (has_room leaves old cost) leaves next old one
  pub whole : AreWhole old
  pub fits : cost ≤ page_room old.size
  pub type : next.leaf_type ≡ leaves.leaf_type
  pub size : one.size ≡ old.size
  pub some : AreSomeLeaves next one
  pub there : next.last < length one.pages
  pub room : cost ≤ room_of one.order (bytes_of one next.last)
  pub pairs : leaves.leaf_type ≡ Pairs → HasWholePairs next one

-- how many leaves a unit adds: one where the last has no room for what it takes
abbrev pub leaves_added : Leaves → Built → TreeUnit → ℕ
leaves_added leaves old unit = if has_room leaves old (unit_cost old.size unit) then 0 else 1

-- A unit is pushed: it is put on the last leaf where that has room for what it takes, and else on a new leaf after it.
pub record IsPushed (leaves next : Leaves) (old new : Built) (unit : TreeUnit) : Type 0 where
  pub placed : Placed
  pub is : unit_of placed ≡ unit
  pub type : next.leaf_type ≡ leaves.leaf_type
  pub first : first_leaf next ≡ first_leaf leaves
  pub kept : KeepsOthers leaves.last old new
  -- what stood in later files than those pages stands in later files than these
  pub stays : (before : ℕ) (closed : List (List Placed)) (units : List Placed) → AreFilled leaves old before closed units
      → (g : File) → IsLater (rest_of before next new) (file_so_far new) g → IsLater (rest_of before leaves old) (file_so_far old) g
  pub filled : (before : ℕ) (closed : List (List Placed)) (units : List Placed) → AreFilled leaves old before closed units
      → FilledNow (has_room leaves old (unit_cost old.size unit)) next new before closed units placed
  pub whole : AreWhole old
  pub count : (sorted : Bool) → unit_has_tree old.size unit ≡ false
      → length new.pages ≡ length old.pages + leaves_added leaves old unit + own_pages old.size sorted unit

-- The laws.

-- the units are spread over the leaves by what they take
abbrev pub AreSpreadOver : ℕ → List (List Placed) → List Placed → Type 0
AreSpreadOver size closed units =
    spread_units size (map unit_of (flat_map (λ leaf. leaf) closed ++ units)) ≡ map (map unit_of) (closed ++ (units ∷ []))

abbrev pub SpreadNow : Bool → ℕ → List (List Placed) → List Placed → Placed → Type 0
SpreadNow true size closed units unit = AreSpreadOver size closed (units ++ (unit ∷ []))
SpreadNow false size closed units unit = AreSpreadOver size (closed ++ (units ∷ [])) (unit ∷ [])

-- so they are with a unit more that is pushed
abbrev pub PushedUnitsSpread : Type 0
PushedUnitsSpread =
    (leaves next : Leaves) (old new : Built) (before : ℕ) (closed : List (List Placed)) (units : List Placed) (unit : TreeUnit)
    → AreFilled leaves old before closed units → AreSpreadOver old.size closed units → (put : IsPushed leaves next old new unit)
    → SpreadNow (has_room leaves old (unit_cost old.size unit)) old.size closed units put.placed

-- each unit has room on a leaf
abbrev pub UnitsFit : Type 0
UnitsFit = (size : ℕ) (unit : TreeUnit) → is_page_size size ≡ true → unit_cost size unit ≤ page_room size
