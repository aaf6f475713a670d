-- What is left of the data of a pair.
use Rattle.std.specs.Prelude.{ℕ, List, [], ◌∷◌, Some, None}
use Rattle.bdb_buckets.specs.declared.data.Rest.{Rest}
use Rattle.bdb_buckets.specs.declared.data.Rest.TheVariants.{One, Blocks, Leaves}
use Rattle.bdb_tree.specs.of_overflow.Datum.{datum_seen}

abbrev pub rest_shown : Rest → List (List ℕ)
rest_shown (One None) = []
rest_shown (One (Some datum)) = datum_seen datum ∷ []
rest_shown (Blocks run) = run.blocks
rest_shown (Leaves values) = values
