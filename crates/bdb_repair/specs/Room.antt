-- The bytes that a file of what is salvaged has at least. Source: docs/FORMAT.md, "Repair".
use Rattle.std.specs.Prelude.{ℕ, ◌+◌, List, length, Option, Some, None}
use Rattle.std.specs.List.{sum_by}
use Rattle.bdb_model.specs.of_format.Terms.{File}
use Rattle.bdb_model.specs.declared.shape.Duplicates.{Duplicates}
use Rattle.bdb_model.specs.declared.shape.Duplicates.TheVariants.{No, Unsorted, Sorted}
use Rattle.bdb_model.specs.declared.shape.Shape.{Shape}
use Rattle.bdb_model.specs.declared.shape.Shape.TheVariants.{Btree as BtreeShape, Hash as HashShape, Recno as RecnoShape}
use Rattle.bdb_rescue.specs.of_survey.Salvage.{loose, stored}

-- what a datum takes of a file at least: its bytes, and four
abbrev pub datum_room : List ℕ → ℕ
datum_room value = 4 + length value

-- a pair takes that for its datum
abbrev pub pair_room : (List ℕ × List ℕ) → ℕ
pair_room pair = datum_room pair.1

-- a key with its data takes that for each
abbrev pub entry_room : (List ℕ × List (List ℕ)) → ℕ
entry_room entry = sum_by datum_room entry.1

abbrev pub stored_room : File → ℕ
stored_room file = sum_by pair_room (stored file)

abbrev pub loose_room : File → ℕ
loose_room file = sum_by datum_room (loose file)

-- the same of all pairs, where none may replace another
abbrev pub kept_room : Duplicates → File → ℕ
kept_room No file = 0
kept_room Unsorted file = stored_room file
kept_room Sorted file = 0

-- and of all that a shape keeps so
abbrev pub room_as : Shape → File → ℕ
room_as (BtreeShape duplicates) file = kept_room duplicates file
room_as (HashShape duplicates) file = kept_room duplicates file
room_as RecnoShape file = loose_room file

abbrev pub least_room : Option Shape → File → ℕ
least_room None file = stored_room file + loose_room file
least_room (Some shape) file = room_as shape file
