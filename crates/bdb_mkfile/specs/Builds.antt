-- When an image is one that is built of sections. Source: docs/FORMAT.md, "Loading".
use Rattle.std.specs.Prelude.{◌≡◌, ℕ, ◌*◌, if◌then◌else◌, Bool, List, [], ◌∷◌, length, map, Option, None}
use Rattle.std.specs.List.{AllZip}
use Rattle.bdb_io.specs.of_format.declared.settings.Settings.{Settings}
use Rattle.bdb_io.specs.of_format.Terms.{Database, databases, file_of, head_of, less, list_of, settings_of, verdict_of}
use Rattle.bdb_text_format.specs.declared.sections.Section.{Section}
use Rattle.bdb_text_format.specs.Terms.{header_lines, listed}
use Rattle.bdb_need.specs.of_settle.Loaded.{loaded, loaded_section}
use Rattle.bdb_need.specs.Need.{name_in, need_of}

-- Sections in the byte order of their names.

abbrev pub name_of : Section → List ℕ
name_of section = name_in section.name

abbrev pub put_named : Section → List Section → List Section
put_named section [] = section ∷ []
put_named section (other ∷ others) = if less (name_of section) (name_of other) then section ∷ other ∷ others else other ∷ put_named section others

abbrev pub in_name_order : List Section → List Section
in_name_order [] = []
in_name_order (section ∷ sections) = put_named section (in_name_order sections)

-- settings with the page size and the order of others
abbrev pub in_file_of : Settings → Settings → Settings
in_file_of first settings = record settings { page_size = first.page_size; order = first.order }

-- a database of an image is that of a section: it has its name, its list, and its settings as header lines show them, in a file of the page size and
-- the order of the first section
pub record IsLoadedAs (image : List ℕ) (first : Settings) (section : Section) (database : Database) : Type 0 where
  pub name : database.name ≡ section.name
  pub list : list_of (file_of image) database.fields ≡ listed (loaded section.settings section.pairs)
  pub settings : (print : Bool) (name : Option (List ℕ))
      → header_lines print name (settings_of (head_of image).page_size (head_of image).order database.fields)
      ≡ header_lines print name (in_file_of first section.settings)

-- how many bytes the image of sections has
abbrev pub image_size : List Section → ℕ
image_size [] = 0
image_size (section ∷ sections) = need_of (map loaded_section (section ∷ sections)) * section.settings.page_size

abbrev pub AreLoadedAs : List ℕ → List Section → Type 0
AreLoadedAs image [] = databases (file_of image) ≡ []
AreLoadedAs image (section ∷ sections) =
    AllZip (IsLoadedAs image section.settings) (in_name_order (section ∷ sections)) (databases (file_of image))

-- a sound image, with as many pages as the sections need and the databases of the sections
pub record Builds (sections : List Section) (image : List ℕ) : Type 0 where
  pub sound : verdict_of image ≡ None
  pub size : length image ≡ image_size sections
  pub databases : AreLoadedAs image sections
