-- What can be loaded, and why it isn't. Source: docs/FORMAT.md, "Loading".
use Rattle.std.specs.Prelude.{◌≡◌, ◌⊎◌, ℕ, nat_lt, if◌then◌else◌, List, Option, Some, None}
use Rattle.bdb_text_format.specs.declared.sections.Section.{Section}
use Rattle.bdb_text_format.specs.Terms.{Reads}
use Rattle.bdb_law_sections.specs.Fit.{AreFit}
use Rattle.bdb_need.specs.of_settle.declared.load_error.LoadError.{LoadError}
use Rattle.bdb_need.specs.of_settle.declared.load_error.LoadError.TheVariants.{TooLarge, Memory}
use Rattle.bdb_need.specs.of_settle.LoadErrors.{load_error}
use Rattle.bdb_mkfile.specs.Builds.{image_size}

-- Sections that can be loaded: there is one at least; settings don't go against each other, keys are those of the kind, and where there are several
-- sections, each has a name of its own. Keys and data are as long as they may be.
pub record AreLoadable (sections : List Section) : Type 0 where
  pub most : ℕ
  pub fit : AreFit most sections

-- the image would be larger than a number of bytes
abbrev pub size_error : ℕ → List Section → Option LoadError
size_error most sections = if nat_lt most (image_size sections) then Some TooLarge else None

abbrev pub or_else : Option LoadError → Option LoadError → Option LoadError
or_else None other = other
or_else (Some error) other = Some error

-- the first error of sections, or that their image would be too large
abbrev pub loading_error : ℕ → List Section → Option LoadError
loading_error most sections = or_else (load_error sections) (size_error most sections)

-- a refusal, by the first error of sections and by whether their image is too large
abbrev pub IsLoadRefusalBy : Option LoadError → Option LoadError → LoadError → Type 0
IsLoadRefusalBy (Some first) large error = error ≡ first
IsLoadRefusalBy None large error = (error ≡ Memory) ⊎ (large ≡ Some error)

-- a refusal gives the first error of sections; where there is none, that their image would be too large, or lack of memory
abbrev pub IsLoadRefusal : ℕ → List Section → LoadError → Type 0
IsLoadRefusal most sections error = IsLoadRefusalBy (load_error sections) (size_error most sections) error

-- the sections of a text can be loaded
abbrev pub ReadSectionsAreLoadable : Type 0
ReadSectionsAreLoadable = (text : List ℕ) (sections : List Section) → Reads text sections → AreLoadable sections
