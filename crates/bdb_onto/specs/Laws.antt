-- A text that is loaded onto a base is loaded as one text with the pairs of both. Source: docs/FORMAT.md, "Loading onto a file".
use Rattle.std.specs.Prelude.{◌≡◌, ℕ, List, [], None}
use Rattle.bdb_mkfile.specs.of_text_format.declared.sections.Section.{Section}
use Rattle.bdb_mkfile.specs.of_settle.Loaded.{loaded_section}
use Rattle.bdb_mkfile.specs.of_settle.LoadErrors.{load_error}
use Rattle.bdb_mkfile.specs.Builds.{Builds, image_size}
use Rattle.bdb_mkfile.specs.Loading.{AreLoadable}
use Rattle.bdb_onto.specs.declared.base.Base.{Base}
use Rattle.bdb_onto.specs.Bases.{IsBase}
use Rattle.bdb_onto.specs.Onto.{BuildsOnto, HaveNoErrorsOnto, in_base, joined, loaded_onto, onto_error, size_onto}

-- sections that can be loaded, and that have no error on a base
pub record AreLoadableOnto (base : Base) (sections : List Section) : Type 0 where
  pub base_is : IsBase base
  pub fit : AreLoadable sections
  pub none : HaveNoErrorsOnto base sections

abbrev pub JoinedLoadWithoutErrors : Type 0
JoinedLoadWithoutErrors = (base : Base) (sections : List Section) → AreLoadableOnto base sections → load_error (joined base sections) ≡ None

abbrev pub JoinedAreLoadable : Type 0
JoinedAreLoadable = (base : Base) (sections : List Section) → AreLoadableOnto base sections → AreLoadable (joined base sections)

-- what is built, and how large it is
pub record IsBuiltOnto (base : Base) (sections : List Section) : Type 0 where
  pub size : image_size (joined base sections) ≡ size_onto base sections
  pub built : (image : List ℕ) → Builds (joined base sections) image → BuildsOnto base sections image

abbrev pub JoinedBuildOnto : Type 0
JoinedBuildOnto = (base : Base) (sections : List Section) → AreLoadableOnto base sections → IsBuiltOnto base sections

-- where no error of sections on a base is the first, none holds
abbrev pub NoFirstErrorIsNone : Type 0
NoFirstErrorIsNone = (base : Base) (sections : List Section) → onto_error base sections ≡ None → HaveNoErrorsOnto base sections

-- onto a base without databases a section is loaded as by itself, in the page size and the order of the base
abbrev pub OntoNothingIsLoading : Type 0
OntoNothingIsLoading =
    (base : Base) (section : Section) → base.databases ≡ []
    → loaded_onto base section ≡ loaded_section (record section { settings = in_base base section.settings })
