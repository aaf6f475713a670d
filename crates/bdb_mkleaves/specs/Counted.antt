-- How many pages leaves that are filled unit by unit have, and their finished tree. Source: docs/FORMAT.md, "Built trees".
use Rattle.std.specs.Prelude.{◌≡◌, ℕ, ◌+◌, Bool, true, false, List, [], ◌∷◌, ◌++◌, length, map}
use Rattle.std.specs.List.{flat_map, sum_by}
use Rattle.bdb_pack.specs.Built.{Built}
use Rattle.bdb_mkleaves.specs.Filled.{AreFilled, AreSpreadOver, IsPushed, leaves_added}
use Rattle.bdb_mkleaves.specs.Finished.{HasFirstRoot}
use Rattle.bdb_mkleaves.specs.Leaves.{has_room}
use Rattle.bdb_mkleaves.specs.Placed.{Placed, unit_of}
use Rattle.bdb_mkleaves.specs.Spread.{own_pages, tree_size}
use Rattle.bdb_mkleaves.specs.Units.{TreeUnit, unit_cost}
use Rattle.bdb_mkleaves.specs.declared.leaves.Leaves.{Leaves}

-- Leaves that were begun at a page: their units are spread over them by what they take, and the pages since then are the leaves and what the units
-- have of their own.
pub record AreCounted (sorted : Bool) (leaves : Leaves) (built : Built) (before : ℕ) (closed : List (List Placed)) (units : List Placed)
    : Type 0 where
  pub filled : AreFilled leaves built before closed units
  pub spread : AreSpreadOver built.size closed units
  pub count : length built.pages
      ≡ before + (length closed + 1) + sum_by (own_pages built.size sorted) (map unit_of (flat_map (λ leaf. leaf) closed ++ units))

-- a unit is on the last leaf, that of before, or a new one
abbrev pub CountedNow : Bool → Bool → Leaves → Built → ℕ → List (List Placed) → List Placed → Placed → Type 0
CountedNow true sorted leaves built before closed units unit = AreCounted sorted leaves built before closed (units ++ (unit ∷ []))
CountedNow false sorted leaves built before closed units unit = AreCounted sorted leaves built before (closed ++ (units ∷ [])) (unit ∷ [])

-- The laws.

-- so are leaves that are begun
abbrev pub BegunLeavesAreCounted : Type 0
BegunLeavesAreCounted =
    (sorted : Bool) (leaves : Leaves) (built : Built) (before : ℕ) → AreFilled leaves built before [] [] → length built.pages ≡ before + 1
    → AreCounted sorted leaves built before [] []

-- and with a unit more that is pushed
abbrev pub PushedUnitsAreCounted : Type 0
PushedUnitsAreCounted =
    (sorted : Bool) (leaves next : Leaves) (old new : Built) (before : ℕ) (closed : List (List Placed)) (units : List Placed) (unit : TreeUnit)
    → AreCounted sorted leaves old before closed units → (put : IsPushed leaves next old new unit)
    → length new.pages ≡ length old.pages + leaves_added leaves old unit + own_pages old.size sorted unit
    → CountedNow (has_room leaves old (unit_cost old.size unit)) sorted next new before closed units put.placed

-- the pages of their finished tree are as many as the units say
abbrev pub FinishedTreesHaveSize : Type 0
FinishedTreesHaveSize =
    (sorted : Bool) (leaves : Leaves) (old new : Built) (counted : Bool) (before : ℕ) (closed : List (List Placed)) (units : List Placed) (root : ℕ)
    → AreCounted sorted leaves old before closed units → HasFirstRoot leaves old new counted closed units root
    → length new.pages ≡ before + tree_size leaves.leaf_type old.size sorted (map unit_of (flat_map (λ leaf. leaf) closed ++ units))
