use Rattle.std.specs.Prelude.{◌≡◌, ◌++◌, map}
use Rattle.bdb_apart.specs.Kept.{found_seen}
use Rattle.bdb_apart.specs.Names.{entry_found}
use Rattle.bdb_apart.proofs.databases.listed.Given as goal

-- The databases that are listed, and those that are left, are all.
abbrev pub invariant-loop-name : goal.invariant-loop-name
invariant-loop-name l = map found_seen l.places.items ++ map entry_found l.name-iterator ≡ map entry_found l.fn.dbs.entries
