-- What holds of the sections that are loaded, whatever was salvaged. Source: docs/FORMAT.md, "Repair".
use Rattle.std.specs.Prelude.{◌≡◌, ℕ, ◌/◌, ◌≤◌, ◌<◌, IsTrue, List, length, Option, None}
use Rattle.bdb_model.specs.of_format.Terms.{is_page_size}
use Rattle.bdb_mkfile.specs.of_settle.LoadErrors.{load_error}
use Rattle.bdb_mkfile.specs.Builds.{image_size}
use Rattle.bdb_mkfile.specs.Loading.{AreLoadable}
use Rattle.bdb_model.specs.declared.shape.Shape.{Shape}
use Rattle.bdb_repair.specs.Parts.{repair_sections}
use Rattle.bdb_repair.specs.Room.{least_room}
use Rattle.bdb_rescue.specs.of_survey.declared.guess.Guess.{Guess}
use Rattle.bdb_rescue.specs.of_survey.Salvage.{salvaged_file, stored}

abbrev pub PartsHaveNoErrors : Type 0
PartsHaveNoErrors = (shape : Option Shape) (guess : Guess) (image : List ℕ) → load_error (repair_sections shape guess image) ≡ None

abbrev pub PartsAreLoadable : Type 0
PartsAreLoadable =
    (shape : Option Shape) (guess : Guess) (image : List ℕ) → IsTrue (is_page_size guess.page_size)
    → AreLoadable (repair_sections shape guess image)

-- the file has at least the bytes of all data that it keeps, and four for each
abbrev pub PairsTakeRoom : Type 0
PairsTakeRoom =
    (shape : Option Shape) (guess : Guess) (image : List ℕ) → IsTrue (is_page_size guess.page_size)
    → least_room shape (salvaged_file guess.order guess.page_size image) ≤ image_size (repair_sections shape guess image)

-- so more stored pairs than a fourth of a number of bytes have no room in a file of as many
abbrev pub ManyPairsAreTooLarge : Type 0
ManyPairsAreTooLarge =
    (guess : Guess) (image : List ℕ) (max : ℕ) → IsTrue (is_page_size guess.page_size)
    → max / 4 < length (stored (salvaged_file guess.order guess.page_size image)) → max < image_size (repair_sections None guess image)
