-- The names of the sections that were read so far, in a sorted set.
use Rattle.std.specs.Prelude.{◌≡◌, ℕ, Bool, List, map, Option, Some, Vec, is_none, vec_items}
use Rattle.std.specs.BTreeSet.{BTreeSet}
use Rattle.std.specs.List.{list_any}
use Rattle.std.specs.Str.{bytes_eq}
use Rattle.bdb_spelling.specs.of_format.Terms.{is_name}

-- the names in a set
abbrev pub keys_in : {Z : Type 0} → BTreeSet (Vec ℕ Z) → List (List ℕ)
keys_in names = map vec_items names.keys

-- a name is among these keys exactly where it is one of the names, and it is known whether one of these is none
pub record AreNames (keys : List (List ℕ)) (unnamed : Bool) (names : List (Option (List ℕ))) : Type 0 where
  pub named : (name : List ℕ) → list_any (bytes_eq name) keys ≡ list_any (is_name (Some name)) names
  pub none : unnamed ≡ list_any is_none names
