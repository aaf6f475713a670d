-- The list of a table as the code gives it.
use Rattle.std.specs.Prelude.{◌≡◌, ℕ, ◌++◌, List, map}
use Rattle.std.specs.List.{Contains, flat_map}
use Rattle.bdb_buckets.specs.of_format.Terms.{File, HashFields, ListKey, by_key, database_faults, fault_at, file_of, table_pairs}
use Rattle.bdb_buckets.specs.of_format.declared.rows.ContentsRow.TheVariants.{KeyTwice}
use Rattle.bdb_buckets.specs.of_format.declared.rows.Row.TheVariants.{Contents}
use Rattle.bdb_buckets.specs.of_overflow.declared.datum.Datum.{Datum}
use Rattle.bdb_buckets.specs.of_overflow.declared.datum.KeyView.{KeyView}
use Rattle.bdb_buckets.specs.of_overflow.Datum.{datum_seen, key_view_seen}
use Rattle.bdb_buckets.specs.Told.{Told, entry_list, listed_told, told}
use Rattle.bdb_buckets.specs.of_format.declared.metadata.HashMeta.{HashMeta}

-- a pair of a list
abbrev pub entry_seen : (KeyView × Datum) → ListKey × List ℕ
entry_seen entry = (key_view_seen entry.0, datum_seen entry.1)

-- KeyTwice doesn't hold for a table
pub record KeysDiffer (file : File) (meta : HashMeta) : Type 0 where
  pub none_comes_twice : (p : ℕ) → Contains (database_faults file (HashFields meta)) (fault_at (Contents KeyTwice) p) → ⊥

-- the pairs of a table in the order of their keys
abbrev pub ranked : List ℕ → HashMeta → List Told
ranked image meta = map (told image) (by_key (table_pairs (file_of image) meta))

-- what is left of a key's data and of the pairs after it is what was left at first
pub record IsListedOn (first : List (ListKey × List ℕ)) (key : List ℕ) (data' : List (List ℕ)) (left : List Told) : Type 0 where
  pub same : entry_list key data' ++ flat_map listed_told left ≡ first
