-- What a linked image keeps, and which pages fit which use. Source: docs/FORMAT.md, "References".
use Rattle.std.specs.Prelude.{◌≡◌, ◌≤◌, ℕ, ◌+◌, IsTrue, List, [], ◌∷◌}
use Rattle.std.specs.List.{Contains, filter, range_with_len}
use Rattle.bdb_faults.specs.of_format.declared.references.Sort.{Sort}
use Rattle.bdb_faults.specs.of_format.declared.references.Sort.TheVariants.{Root, Bucket, OverflowHead, DuplicateRoot}
use Rattle.bdb_faults.specs.of_format.Terms.{File, Meta, Metadata, Owner, all_references, faults_in, has_type, head_of, is_meta, page_at, type_in}
use Rattle.bdb_image.specs.Formed.{IsFormed}

-- no row of the first five stages holds
pub record IsForest (image : List ℕ) : Type 0 where
  pub formed : IsFormed image (head_of image)
  pub linked : faults_in (3 ∷ 4 ∷ 5 ∷ []) image ≡ []

-- the metadata pages below a number, ascending
abbrev pub metas_below : File → ℕ → List ℕ
metas_below file n = filter (λ p. is_meta (page_at file p)) (range_with_len 0 n)

-- the metadata pages, ascending
unfoldable pub meta_pages : File → List ℕ
meta_pages file = metas_below file (file.last + 1)

-- some page is metadata with these fields
pub record HasMetadata (file : File) (fields : Metadata) : Type 0 where
  pub page : ℕ
  pub inside : page ≤ file.last
  pub is : page_at file page ≡ Meta fields

-- a reference of a sort names this page
pub record IsTarget (file : File) (sort : Sort) (p : ℕ) : Type 0 where
  pub owner : Owner
  pub held : Contains (all_references file) owner
  pub sort_is : owner.reference.sort ≡ sort
  pub target_is : owner.reference.target ≡ p

abbrev pub FitsTreeRoot : File → ℕ → Type 0
FitsTreeRoot file p = IsTarget file Root p

abbrev pub FitsBucket : File → ℕ → Type 0
FitsBucket file p = IsTarget file Bucket p

abbrev pub FitsChain : File → ℕ → Type 0
FitsChain file p = IsTarget file OverflowHead p

abbrev pub FitsDupRoot : File → ℕ → Type 0
FitsDupRoot file p = IsTarget file DuplicateRoot p

abbrev pub FitsLeafPage : File → ℕ → Type 0
FitsLeafPage file p = IsTrue (has_type (5 ∷ 6 ∷ 12 ∷ []) (type_in (page_at file p)))
