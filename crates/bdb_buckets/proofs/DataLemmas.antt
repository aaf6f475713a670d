-- The data of a pair that is one value.
use Rattle.std.proofs.Common.{◌≡◌, ℕ, List, [], ◌∷◌, refl, Option, Some, None}
use Rattle.bdb_tree.specs.of_format.Terms.{Chain, File, data_of}
use Rattle.bdb_tree.specs.of_overflow.Datum.{single_value}

-- what is left where an item has this one value
abbrev pub one_shown : Option (List ℕ) → List (List ℕ)
one_shown None = []
one_shown (Some value) = value ∷ []

pub one_datum : (file : File) (head total : ℕ) → one_shown (single_value file (Chain head total)) ≡ data_of file (Chain head total)
unfolding data_of
one_datum file head total = refl
