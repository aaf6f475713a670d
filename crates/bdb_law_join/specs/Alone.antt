-- One part under page 0, which is no master. Source: docs/FORMAT.md, "Faults" and "Databases of a file".
use Rattle.std.specs.Prelude.{◌≡◌, ℕ, ◌≤◌, true, List, [], ◌∷◌, None}
use Rattle.bdb_graph.specs.of_format.declared.metadata.FileKind.TheVariants.{Queue}
use Rattle.bdb_graph.specs.of_format.Terms.{File, Meta, databases, faults_of, file_of, list_of, master_in, page_at, verdict_of}
use Rattle.bdb_pack.specs.of_law_grove.Part.{Part, IsPart}
use Rattle.bdb_law_join.specs.Joining.{HasForm, free_of}

-- the pages above page 0 are a part, and page 0 is its metadata, which names no free page and isn't a master's
pub record StandsAlone (file : File) (part : Part) : Type 0 where
  pub forest : file.kind ≡ Queue → ⊥
  pub all : (p : ℕ) → 1 ≤ p → p ≤ file.last → part.pages p ≡ true
  pub is : IsPart file part
  pub named : page_at file 0 ≡ Meta part.fields
  pub no_free : free_of part.fields ≡ 0
  pub no_master : master_in (Meta part.fields) ≡ None

-- the file is sound, and has one database, without a name, whose metadata is that of the part, and whose list is the part's
pub record IsSoundAlone (image : List ℕ) (part : Part) : Type 0 where
  pub sound : faults_of image ≡ []
  pub verdict : verdict_of image ≡ None
  pub alone : databases (file_of image) ≡ record { name = None; fields = part.fields } ∷ []
  pub list : list_of (file_of image) part.fields ≡ part.list

abbrev pub JoinsAlone : Type 0
JoinsAlone = (image : List ℕ) (part : Part) → HasForm image → StandsAlone (file_of image) part → IsSoundAlone image part
