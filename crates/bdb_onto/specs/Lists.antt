-- Databases of a file in the making, each with its list, whose pages are counted one by one. Source: docs/FORMAT.md, "Loading onto a file".
use Rattle.std.specs.Prelude.{◌≡◌, ◌⊎◌, ℕ, ◌*◌, ◌<◌, ◌++◌, false, List, [], map, None}
use Rattle.std.specs.List.{flat_map, sum_by}
use Rattle.bdb_format.specs.declared.settings.Settings.{Settings}
use Rattle.bdb_mkfile.specs.of_text_format.declared.pairs.TextPair.{TextPair}
use Rattle.bdb_mkfile.specs.of_text_format.declared.sections.Section.{Section}
use Rattle.bdb_mkfile.specs.of_settle.Loaded.{filled_section, ordered_section}
use Rattle.bdb_mkfile.specs.of_settle.LoadErrors.{is_too_wide, pair_errors}
use Rattle.bdb_mkfile.specs.of_settle.declared.load_error.LoadError.{LoadError}
use Rattle.bdb_mkfile.specs.of_settle.declared.load_error.LoadError.TheVariants.{TooLarge, Memory}
use Rattle.bdb_mkfile.specs.of_law_sections.Fit.{IsFitSection}
use Rattle.bdb_mkfile.specs.of_need.Need.{section_pages}
use Rattle.bdb_onto.specs.declared.base.Base.{Base}
use Rattle.bdb_onto.specs.Laws.{AreLoadableOnto}
use Rattle.bdb_onto.specs.Onto.{joined}

-- lists so far, for a file of this page size that is to have at most so many bytes
pub record Listing : Type 0 where
  pub page_size : ℕ
  pub max : ℕ
  pub lists : List Section

-- how many bytes the pages of lists have, metadata among them, once records are filled up
abbrev pub list_bytes : ℕ → List Section → ℕ
list_bytes size lists = sum_by (section_pages size) (map filled_section lists) * size

-- pairs as a section alone, without a name
abbrev pub alone : Settings → List TextPair → Section
alone settings pairs = record { name = None; settings = settings; header_line = 0; pairs = pairs }

-- a section whose pages can be counted: its settings and pairs are fit, and no error holds for it
pub record IsCountable (size : ℕ) (section : Section) : Type 0 where
  pub most : ℕ
  pub sized : section.settings.page_size ≡ size
  pub fit : IsFitSection most section
  pub wide : is_too_wide size section.settings ≡ false
  pub pairs : flat_map (pair_errors section.settings) section.pairs ≡ []

-- a refusal: memory ran out, or these lists take more bytes than there may be
abbrev pub IsListRefusal : ℕ → ℕ → List Section → LoadError → Type 0
IsListRefusal size max lists error = (error ≡ Memory) ⊎ ((error ≡ TooLarge) × (max < list_bytes size lists))

-- of sections these lists stand, and the rest is still to come
pub record AreListedTo (all lists rest : List Section) : Type 0 where
  pub done : List Section
  pub split : all ≡ done ++ rest
  pub lists_are : lists ≡ map ordered_section done

-- a refusal of the list of some section, with those before it
pub record IsPartRefusal (size max : ℕ) (all : List Section) (error : LoadError) : Type 0 where
  pub done : List Section
  pub rest : List Section
  pub split : all ≡ done ++ rest
  pub refused : IsListRefusal size max (map ordered_section done) error

-- the lists of all databases that loading sections onto a base gives, whose records aren't filled up
pub record AreListsOnto (base : Base) (sections lists : List Section) : Type 0 where
  pub loadable : AreLoadableOnto base sections
  pub are : lists ≡ map ordered_section (joined base sections)

pub record AreLists (lists : List Section) : Type 0 where
  pub base : Base
  pub sections : List Section
  pub onto : AreListsOnto base sections lists
