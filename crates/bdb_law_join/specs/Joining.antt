-- Parts of a file that are joined under their metadata pages. A joint is a metadata page with the part that it names.
-- Source: docs/FORMAT.md, "Faults".
use Rattle.std.specs.Prelude.{◌≡◌, ◌⊎◌, ℕ, ◌+◌, ◌≤◌, true, List, [], None}
use Rattle.std.specs.List.{Contains}
use Rattle.bdb_graph.specs.of_format.declared.metadata.FileKind.TheVariants.{Queue}
use Rattle.bdb_graph.specs.of_format.Terms.{BtreeFields, File, HashFields, Meta, Metadata, QueueFields, faults_of, file_of, first_row, form_code, head_of}
use Rattle.bdb_graph.specs.of_format.Terms.{head_rows, list_of, master_faults, page_at, page_bytes}
use Rattle.bdb_pack.specs.of_law_grove.Part.{Part, IsPart}

-- a metadata page, and the part that it names
pub record Joint : Type 0 where
  pub meta : ℕ
  pub part : Part

-- the first free page that metadata names; a queue's names none
abbrev pub free_of : Metadata → ℕ
free_of (BtreeFields meta) = meta.free
free_of (HashFields meta) = meta.free
free_of (QueueFields meta) = 0

-- metadata on page 0 names no free page; what other metadata has in that field means nothing
abbrev pub NamesNoFree : ℕ → Metadata → Type 0
NamesNoFree p fields = p ≡ 0 → free_of fields ≡ 0

-- the page is the metadata page of a joint
abbrev pub IsMetaOf : List Joint → ℕ → Type 0
IsMetaOf joints p = (joint : Joint) × Contains joints joint × (joint.meta ≡ p)

-- the page is one of the part of a joint
abbrev pub IsInPartOf : List Joint → ℕ → Type 0
IsInPartOf joints p = (joint : Joint) × Contains joints joint × (joint.part.pages p ≡ true)

-- the metadata pages and the parts share the pages of the file out among them
pub record ShareOut (file : File) (joints : List Joint) : Type 0 where
  -- each page is metadata or of a part
  pub each : (p : ℕ) → p ≤ file.last → IsMetaOf joints p ⊎ IsInPartOf joints p
  pub meta_there : (j : Joint) → Contains joints j → j.meta ≤ file.last
  -- of one part alone
  pub one_part : (j k : Joint) (p : ℕ) → Contains joints j → Contains joints k → j.part.pages p ≡ true → k.part.pages p ≡ true → j ≡ k

-- the metadata pages name their parts, and page 0 no free page
pub record AreJoined (file : File) (joints : List Joint) : Type 0 where
  pub forest : file.kind ≡ Queue → ⊥
  pub shared_out : ShareOut file joints
  pub parts : (j : Joint) → Contains joints j → IsPart file j.part
  pub named : (j : Joint) → Contains joints j → page_at file j.meta ≡ Meta j.part.fields
  pub no_free : (j : Joint) → Contains joints j → NamesNoFree j.meta j.part.fields

-- no row of stages 1 and 2 holds for an image, and its last page is the last one there is
pub record HasForm (image : List ℕ) : Type 0 where
  pub head : first_row (head_rows image) ≡ None
  pub whole : (head_of image).last + 1 ≡ (head_of image).pages
  pub formed : (p : ℕ) → p ≤ (head_of image).last → form_code (head_of image) p (page_bytes (head_of image) image p) ≡ None

-- an image of joined parts
pub record IsJoined (image : List ℕ) (joints : List Joint) : Type 0 where
  pub form : HasForm image
  pub joined : AreJoined (file_of image) joints

-- the file is sound, and each metadata page has the list of its part
pub record HoldsLists (image : List ℕ) (joints : List Joint) : Type 0 where
  pub sound : faults_of image ≡ []
  pub lists : (j : Joint) → Contains joints j → list_of (file_of image) j.part.fields ≡ j.part.list

-- such an image is sound where the rows of the master hold nowhere
abbrev pub JoinsUnderMaster : Type 0
JoinsUnderMaster = (image : List ℕ) (joints : List Joint) → IsJoined image joints → master_faults (file_of image) ≡ [] → HoldsLists image joints
