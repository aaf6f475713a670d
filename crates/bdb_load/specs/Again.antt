-- A dump of a sound file, loaded and dumped, is the same text. Source: docs/FORMAT.md, "Dump text" and "Loading".
use Rattle.std.specs.Prelude.{◌≡◌, ℕ, Bool, List, [], None}
use Rattle.bdb_onto.specs.of_mkfile.of_format.Terms.{databases, file_of}
use Rattle.bdb_onto.specs.of_mkfile.of_text_format.declared.sections.Section.{Section}
use Rattle.bdb_onto.specs.of_mkfile.of_text_format.Terms.{Reads, dump_text}
use Rattle.bdb_onto.specs.of_mkfile.of_settle.LoadErrors.{load_error}
use Rattle.bdb_onto.specs.of_law_kept.of_text.WrittenLaw.{AreBytes}
use Rattle.bdb_onto.specs.of_law_kept.Dumps.{HasNoEmptyRecords}
use Rattle.bdb_onto.specs.of_law_kept.Kept.{IsSound}
use Rattle.bdb_onto.specs.of_mkfile.Builds.{Builds}

-- the text of all databases of an image
abbrev pub whole_dump : Bool → List ℕ → List ℕ
whole_dump print image = dump_text print image (databases (file_of image))

-- a text is accepted: it reads as sections for which no error of loading holds; and each image that is built of these is dumped as the same text
pub record LoadsToItself (print : Bool) (text : List ℕ) : Type 0 where
  pub sections : List Section
  pub reads : Reads text sections
  pub no_error : load_error sections ≡ None
  pub again : (built : List ℕ) → Builds sections built → whole_dump print built ≡ text

-- so is the dump, in either spelling, of each sound image of bytes that has a database and no queue of records without bytes
abbrev pub DumpsLoadToThemselves : Type 0
DumpsLoadToThemselves =
    (print : Bool) (image : List ℕ) → IsSound image → AreBytes image → (databases (file_of image) ≡ [] → ⊥) → HasNoEmptyRecords image
    → LoadsToItself print (whole_dump print image)
