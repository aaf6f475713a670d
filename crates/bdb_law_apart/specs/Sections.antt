-- Sections of what is given of a sound file. Source: docs/FORMAT.md, "Salvage" and "Dump text".
use Rattle.std.specs.Prelude.{◌≡◌, ℕ, Bool, List, map}
use Rattle.std.specs.List.{AllZip}
use Rattle.bdb_law_homes.specs.of_format.Terms.{databases, file_of, head_of}
use Rattle.bdb_apart.specs.Found.{Found, found}
use Rattle.bdb_apart.specs.Given.{in_image}
use Rattle.bdb_apart.specs.Text.{list_given, settings_in}
use Rattle.bdb_law_homes.specs.of_law_whole.Kept.{IsSoundFile}
use Rattle.bdb_law_kept.specs.of_text_format.declared.sections.Section.{Section}
use Rattle.bdb_law_kept.specs.of_text_format.Terms.{header_lines}
use Rattle.bdb_law_kept.specs.of_text.WrittenLaw.{pair_in}
use Rattle.bdb_law_kept.specs.Dumps.{AreKeptAs}
use Rattle.bdb_law_kept.specs.Kept.{LoadsAlike}
use Rattle.bdb_apart.specs.Read.{read}

-- a section with the name, the header lines and the pairs that are given of a database
pub record IsGivenOf (print : Bool) (image : List ℕ) (db : Found) (section : Section) : Type 0 where
  pub name_is : section.name ≡ db.name
  pub lines_are : header_lines print db.name section.settings ≡ header_lines print db.name (settings_in (in_image (read image) db))
  pub alike : LoadsAlike section.settings (settings_in (in_image (read image) db))
  pub page_size : section.settings.page_size ≡ (head_of image).page_size
  pub order : section.settings.order ≡ (head_of image).order
  pub pairs_are : map pair_in section.pairs ≡ list_given (in_image (read image) db)

-- such sections of all databases that are found in a sound btree or hash file are kept as the databases that it has: so they load into its lists, and
-- what is loaded of them is dumped as the file is
abbrev pub GivenSectionsAreKept : Type 0
GivenSectionsAreKept =
    (print : Bool) (image : List ℕ) (sections : List Section) → IsSoundFile image → AllZip (IsGivenOf print image) (found (read image)) sections
    → AreKeptAs print image (databases (file_of image)) sections
