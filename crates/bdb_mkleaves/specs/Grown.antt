-- Sets as they have grown: a finished tree of live entries, in each later file. Source: docs/FORMAT.md, "Built trees".
use Rattle.std.specs.Prelude.{◌≡◌, ℕ, Bool, false, List, [], ◌∷◌, ◌++◌, length, map}
use Rattle.std.specs.List.{flat_map}
use Rattle.bdb_places.specs.of_format.Terms.{File, Tree, data_of, is_wrong_set}
use Rattle.bdb_pack.specs.of_law_grove.Growing.{IsCounted, IsLater}
use Rattle.bdb_pack.specs.of_law_grove.Part.{between}
use Rattle.bdb_pack.specs.Built.{Built, file_so_far}
use Rattle.bdb_mkleaves.specs.Filled.{AreFilled, StandOn}
use Rattle.bdb_mkleaves.specs.Finished.{HasFirstRoot}
use Rattle.bdb_mkleaves.specs.Laid.{has_sorted_data}
pub use Rattle.bdb_mkleaves.specs.Layout.{live_entry}
use Rattle.bdb_mkleaves.specs.Placed.{Placed, unit_of}
use Rattle.bdb_mkleaves.specs.declared.leaf_type.LeafType.TheVariants.{Pairs}
use Rattle.bdb_mkleaves.specs.declared.leaves.Leaves.{Leaves}

-- A finished tree of live entries is a set of their values, which stands where a datum names its root.
abbrev pub GrownSetsStand : Type 0
GrownSetsStand =
    (leaves : Leaves) (old new : Built) (counted : Bool) (before : ℕ) (closed : List (List Placed)) (units : List Placed) (root : ℕ)
    (values : List (List ℕ)) → (leaves.leaf_type ≡ Pairs → ⊥)
    → AreFilled leaves old before closed units → HasFirstRoot leaves old new counted closed units root
    → map unit_of (flat_map (λ leaf. leaf) closed ++ units) ≡ map live_entry values
    → (g : File) → IsCounted g → IsLater (between before (length new.pages)) (file_so_far new) g
    → StandOn g (between before (length new.pages)) (Tree root ∷ []) × (data_of g (Tree root) ≡ values)
    × (is_wrong_set g (has_sorted_data leaves.leaf_type) (Tree root) ≡ false)
