-- What the iterators over a bucket and its pairs keep.
use Rattle.std.specs.Prelude.{◌≡◌, ◌≤◌, ℕ, IsTrue, List, [], Option, Some, None}
use Rattle.bdb_tree.specs.of_image.Linked.{FitsDupRoot, IsForest}
use Rattle.bdb_tree.specs.of_overflow.Datum.{FitsContent}
use Rattle.bdb_buckets.specs.Told.{is_of_bucket}
use Rattle.bdb_tree.specs.of_format.declared.metadata.FileKind.TheVariants.{Queue}
use Rattle.bdb_tree.specs.of_format.Terms.{Chain, Content, File, Inline, Set, Tree, Unknown, file_of, page_at, structure_faults}

-- a file with references on which no row of stages 1 to 6 holds
pub record IsTable (image : List ℕ) : Type 0 where
  pub forest : IsForest image
  pub stage : structure_faults (file_of image) ≡ []
  pub table : (file_of image).kind ≡ Queue → ⊥

-- a page that a bucket may have
pub record IsOfBucket (file : File) (p : ℕ) : Type 0 where
  pub inside : p ≤ file.last
  pub kind : IsTrue (is_of_bucket (page_at file p))

-- the next page of a bucket is 0, or one that it may have
pub record IsOnWay (image : List ℕ) (next : ℕ) : Type 0 where
  pub forest : IsTable image
  pub fits : (next ≡ 0 → ⊥) → IsOfBucket (file_of image) next

-- the value that an item has on its page
abbrev pub value_on_page : Content → Option (List ℕ)
value_on_page (Inline bytes) = Some bytes
value_on_page (Set blocks) = None
value_on_page (Chain head total) = None
value_on_page (Tree root) = None
value_on_page Unknown = None

-- a set off the page has a root of its own
abbrev pub FitsRoot : File → Content → Type 0
FitsRoot file (Tree root) = FitsDupRoot file root
FitsRoot file (Inline bytes) = Unit {0}
FitsRoot file (Set blocks) = Unit {0}
FitsRoot file (Chain head total) = Unit {0}
FitsRoot file Unknown = Unit {0}

-- what the data item of a pair names is there
pub record IsPair (image : List ℕ) (content : Content) : Type 0 where
  pub forest : IsTable image
  pub chain : FitsContent (file_of image) content
  pub root : FitsRoot (file_of image) content
