-- The names that were seen.
use Rattle.std.specs.Prelude.{◌≡◌, ℕ, ◌||◌, List}
use Rattle.std.specs.BTreeSet.{BTreeSet}
use Rattle.std.specs.Str.{bytes_eq}
use Rattle.bdb_overflow.specs.Keys.{has_key}

-- the keys are those before and one more
pub record HasAdded (old new : BTreeSet (List ℕ)) (key : List ℕ) : Type 0 where
  pub each : (sought : List ℕ) → has_key new sought ≡ (bytes_eq key sought || has_key old sought)
