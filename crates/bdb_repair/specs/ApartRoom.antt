-- The bytes that a file of the databases that are found has at least. Source: docs/FORMAT.md, "Repair".
use Rattle.std.specs.Prelude.{◌≤◌, ℕ, IsTrue, List, if◌then◌else◌}
use Rattle.std.specs.List.{sum_by}
use Rattle.bdb_apart.specs.Given.{FoundIn, found_in, pairs_given}
use Rattle.bdb_apart.specs.Text.{settings_in}
use Rattle.bdb_model.specs.of_format.Terms.{is_page_size}
use Rattle.bdb_mkfile.specs.Builds.{image_size}
use Rattle.bdb_mkfile.specs.of_settle.Loaded.{keeps_data}
use Rattle.bdb_repair.specs.Apart.{apart_sections}
use Rattle.bdb_repair.specs.Room.{pair_room}
use Rattle.bdb_rescue.specs.Kept.{Reading}
use Rattle.bdb_rescue.specs.of_survey.declared.guess.Guess.{Guess}

-- what a database takes at least: that of its data, where none of them may replace another
abbrev pub found_room : FoundIn → ℕ
found_room it = if keeps_data (settings_in it) then sum_by pair_room (pairs_given it) else 0

-- and all of them together
abbrev pub apart_room : Reading → ℕ
apart_room reading = sum_by found_room (found_in reading)

-- the file has at least as many bytes
abbrev pub DatabasesTakeRoom : Type 0
DatabasesTakeRoom =
    (guess : Guess) (image : List ℕ) → IsTrue (is_page_size guess.page_size)
    → apart_room (record { guess = guess; image = image }) ≤ image_size (apart_sections guess image)
