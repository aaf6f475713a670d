-- The records of a database that are left, wherever they stand.
use Rattle.std.specs.Prelude.{ℕ, List}
use Rattle.bdb_apart.specs.declared.records.Numbered.{Numbered}
use Rattle.bdb_apart.specs.declared.records.Numbered.TheVariants.{Leaves, Queue}

abbrev pub numbered_seen : Numbered → List (ℕ × List ℕ)
numbered_seen (Leaves records) = records
numbered_seen (Queue records) = records
