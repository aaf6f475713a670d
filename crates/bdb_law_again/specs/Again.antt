-- What is repaired of a sound file, database by database, is the file again. Source: docs/FORMAT.md, "Salvage", "Repair" and "Dump text".
use Rattle.std.specs.Prelude.{◌≡◌, ℕ, Bool, List, [], Some, None, Result, IfOk}
use Rattle.std.specs.List.{AllZip}
use Rattle.bdb_repair.specs.of_format.Terms.{Database, databases, file_of, list_of}
use Rattle.bdb_repair.specs.of_text_format.declared.sections.Section.{Section}
use Rattle.bdb_repair.specs.of_text_format.Terms.{Reads, header_lines}
use Rattle.bdb_repair.specs.of_apart.Found.{found}
use Rattle.bdb_repair.specs.of_apart.Read.{read}
use Rattle.bdb_repair.specs.of_apart.Text.{apart_text}
use Rattle.bdb_repair.specs.of_rescue.Guesses.{chosen}
use Rattle.bdb_repair.specs.of_survey.declared.guess.Guess.{Guess}
use Rattle.bdb_repair.specs.of_mkfile.Builds.{Builds}
use Rattle.bdb_repair.specs.of_settle.LoadErrors.{load_error}
use Rattle.bdb_repair.specs.Apart.{IsRepairedApart, sections_in}
use Rattle.bdb_repair.specs.declared.error.RepairError.{RepairError}
use Rattle.bdb_load.specs.Again.{whole_dump}
use Rattle.bdb_load.specs.of_law_kept.Dumps.{HasNoEmptyRecords}
use Rattle.bdb_load.specs.of_law_kept.Kept.{settings_in}
use Rattle.bdb_load.specs.of_law_kept.of_text.WrittenLaw.{AreBytes}
use Rattle.bdb_law_apart.specs.of_law_whole.Kept.{IsSoundFile}
use Rattle.bdb_law_apart.specs.Left.{IsSoundQueue}
use Rattle.bdb_law_apart.specs.Sections.{IsGivenOf}

-- The sections that are built are those of what is given of each database that is found.
abbrev pub SectionsAreGiven : Type 0
SectionsAreGiven = (print : Bool) (image : List ℕ) → AllZip (IsGivenOf print image) (found (read image)) (sections_in (read image))

-- a database of another image has the name and the list of one of this, and its settings as header lines show them
pub record IsSameAs (print : Bool) (image other : List ℕ) (database again : Database) : Type 0 where
  pub name_is : again.name ≡ database.name
  pub lines_are : header_lines print database.name (settings_in other again.fields) ≡ header_lines print database.name (settings_in image database.fields)
  pub list_is : list_of (file_of other) again.fields ≡ list_of (file_of image) database.fields

-- another image has the same databases in the same order, and so the same dump
pub record IsAgain (print : Bool) (image other : List ℕ) : Type 0 where
  pub databases_are : AllZip (IsSameAs print image other) (databases (file_of image)) (databases (file_of other))
  pub dump : whole_dump print other ≡ whole_dump print image

-- An image that is built of the sections of a sound btree or hash file is that file again.
abbrev pub BuiltIsTheFile : Type 0
BuiltIsTheFile = (print : Bool) (image built : List ℕ) → IsSoundFile image → Builds (sections_in (read image)) built → IsAgain print image built

-- So is the image that is answered where no guess is given.
abbrev pub RepairedIsTheFile : Type 0
RepairedIsTheFile =
    (print : Bool) (max : ℕ) (image : List ℕ) (result : Result (List ℕ) RepairError) → IsSoundFile image
    → IsRepairedApart max (chosen None image) image result → IfOk result (IsAgain print image)

-- A text is accepted: it reads as sections for which no error of loading holds; and each image that is built of these is a file again.
pub record LoadsAgain (print : Bool) (text image : List ℕ) : Type 0 where
  pub sections : List Section
  pub reads : Reads text sections
  pub no_error : load_error sections ≡ None
  pub again : (built : List ℕ) → Builds sections built → IsAgain print image built

-- So is the text of what is given of each database of a sound btree or hash file that has one.
abbrev pub ApartLoadsAgain : Type 0
ApartLoadsAgain =
    (print : Bool) (guess : Guess) (image : List ℕ) → IsSoundFile image → (databases (file_of image) ≡ [] → ⊥) → chosen None image ≡ Some guess
    → LoadsAgain print (apart_text print guess image) image

-- Queues.

-- a sound queue of bytes, whose records have some
pub record IsFullQueue (image : List ℕ) : Type 0 where
  pub queue : IsSoundQueue image
  pub bytes : AreBytes image
  pub full : HasNoEmptyRecords image

-- The same of these.

abbrev pub BuiltQueueIsTheFile : Type 0
BuiltQueueIsTheFile =
    (print : Bool) (image built : List ℕ) → IsFullQueue image → Builds (sections_in (read image)) built → IsAgain print image built

abbrev pub RepairedQueueIsTheFile : Type 0
RepairedQueueIsTheFile =
    (print : Bool) (max : ℕ) (image : List ℕ) (result : Result (List ℕ) RepairError) → IsFullQueue image
    → IsRepairedApart max (chosen None image) image result → IfOk result (IsAgain print image)

abbrev pub QueueLoadsAgain : Type 0
QueueLoadsAgain =
    (print : Bool) (guess : Guess) (image : List ℕ) → IsFullQueue image → chosen None image ≡ Some guess
    → LoadsAgain print (apart_text print guess image) image
