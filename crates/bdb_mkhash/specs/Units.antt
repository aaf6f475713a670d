-- Keys with their data in memory.
use Rattle.std.specs.Prelude.{◌<◌, List, length, map}
use Rattle.std.specs.List.{All}
use Rattle.bdb_mktree.specs.of_places.Places.{values_seen}
use Rattle.bdb_mktree.specs.of_mkleaves.Runs.{IsShort}
use Rattle.bdb_law_buckets.specs.Tables.{Keyed}
use Rattle.bdb_mkhash.specs.declared.unit.Unit.{Unit as CodeUnit}

-- a key with its data, without where its bytes lie
abbrev pub unit_seen : CodeUnit → Keyed
unit_seen unit = record { key = unit.key.now; values = values_seen unit.values }

-- it has a datum, and the lengths of its values fit their fields
pub record IsShortUnit (unit : Keyed) : Type 0 where
  pub some : 0 < length unit.values
  pub key : IsShort unit.key
  pub values : All IsShort unit.values

-- the same of several
abbrev pub units_seen : List CodeUnit → List Keyed
units_seen units = map unit_seen units
