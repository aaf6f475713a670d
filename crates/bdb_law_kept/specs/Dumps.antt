-- The dump of a sound file is read as sections that load into its lists. Source: docs/FORMAT.md, "Dump text" and "What loading does to a list".
use Rattle.std.specs.Prelude.{◌≡◌, ℕ, ◌==◌, Bool, true, false, List, [], map, None, unwrap_or}
use Rattle.std.specs.List.{AllZip, Contains}
use Rattle.bdb_databases.specs.of_format.declared.kinds.Kind.TheVariants.{Queue}
use Rattle.bdb_databases.specs.of_format.Terms.{Database, ascends, databases, file_of, head_of, list_of}
use Rattle.bdb_settle.specs.of_text_format.declared.sections.Section.{Section}
use Rattle.bdb_settle.specs.of_text_format.Terms.{Reads, dump_text, header_lines, listed}
use Rattle.bdb_settle.specs.Loaded.{loaded}
use Rattle.bdb_settle.specs.LoadErrors.{load_error}
use Rattle.bdb_text.specs.WrittenLaw.{AreBytes}
use Rattle.bdb_law_kept.specs.Kept.{IsSound, LoadsAlike, settings_in}

-- a section with the name and the header lines of a database, which loads into its list
pub record IsKeptAs (print : Bool) (image : List ℕ) (database : Database) (section : Section) : Type 0 where
  pub name_is : section.name ≡ database.name
  pub lines_are : header_lines print database.name section.settings ≡ header_lines print database.name (settings_in image database.fields)
  pub alike : LoadsAlike section.settings (settings_in image database.fields)
  pub page_size : section.settings.page_size ≡ (head_of image).page_size
  pub order : section.settings.order ≡ (head_of image).order
  pub list_is : listed (loaded section.settings section.pairs) ≡ list_of (file_of image) database.fields

-- as many sections, each kept as its database
abbrev pub AreKeptAs : Bool → List ℕ → List Database → List Section → Type 0
AreKeptAs print image all sections = AllZip (IsKeptAs print image) all sections

-- no queue has records without bytes
abbrev pub HasNoEmptyRecords : List ℕ → Type 0
HasNoEmptyRecords image =
    (database : Database) → Contains (databases (file_of image)) database → (settings_in image database.fields).kind ≡ Queue
    → ((settings_in image database.fields).re_len == 0) ≡ false

-- the name of a section, empty where it has none
abbrev pub bytes_of_section : Section → List ℕ
bytes_of_section section = unwrap_or section.name []

-- sections that a text is read as are kept as the databases of an image: in the order of their names, and no error of loading holds for them
pub record AreKept (print : Bool) (image : List ℕ) (text : List ℕ) (sections : List Section) : Type 0 where
  pub reads : Reads text sections
  pub kept : AreKeptAs print image (databases (file_of image)) sections
  pub in_order : ascends (map bytes_of_section sections) ≡ true
  pub no_error : load_error sections ≡ None

-- the dump of a sound image of bytes, which has a database and no queue of empty records, is read as sections that are kept
abbrev pub DumpsAreKept : Type 0
DumpsAreKept =
    (print : Bool) (image : List ℕ) → IsSound image → AreBytes image → (databases (file_of image) ≡ [] → ⊥) → HasNoEmptyRecords image
    → (sections : List Section) × AreKept print image (dump_text print image (databases (file_of image))) sections

-- a database of an image that is loaded of a section: of its name, its header lines and the list that it loads into
pub record IsLoadedOf (print : Bool) (image : List ℕ) (section : Section) (database : Database) : Type 0 where
  pub name_is : database.name ≡ section.name
  pub lines_are : header_lines print section.name (settings_in image database.fields) ≡ header_lines print section.name section.settings
  pub list_is : list_of (file_of image) database.fields ≡ listed (loaded section.settings section.pairs)

-- databases that are loaded of sections are dumped as the databases that these are kept as
abbrev pub LoadedDumpsAreTheSame : Type 0
LoadedDumpsAreTheSame =
    (print : Bool) (image other : List ℕ) (all others : List Database) (sections : List Section) → AreKeptAs print image all sections
    → AllZip (IsLoadedOf print other) sections others
    → dump_text print other others ≡ dump_text print image all
