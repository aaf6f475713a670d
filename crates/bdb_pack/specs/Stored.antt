-- A stored value stands in each later file: a grove of its own, with the value. Source: docs/FORMAT.md, "Stored values".
use Rattle.std.specs.Prelude.{◌≡◌, ℕ, ◌+◌, ◌-◌, ◌<◌, ◌≤◌, ◌^◌, Bool, List, [], ◌∷◌, length, true}
use Rattle.bdb_layout.specs.of_format.declared.metadata.FileKind.TheVariants.{Queue}
use Rattle.bdb_layout.specs.of_format.Terms.{File, file_of, head_of, is_page_size, joined}
use Rattle.bdb_law_grove.specs.Growing.{IsChainOf, IsCounted, IsLater, IsRun}
use Rattle.bdb_law_grove.specs.Part.{between}
use Rattle.bdb_pack.specs.Built.{AreWhole, Built, file_so_far, joined_pages}
use Rattle.bdb_pack.specs.Values.{HasChain}

-- the pieces of a chain fill their pages, the last one at least in part
abbrev pub AreFull : ℕ → List (List ℕ) → Type 0
AreFull most [] = ⊥
AreFull most (piece ∷ []) = (0 < length piece) × (length piece ≤ most)
AreFull most (piece ∷ next ∷ pieces) = (length piece ≡ most) × AreFull most (next ∷ pieces)

-- in a file the pages from the head up to a number are a chain of the value, each full but the last
pub record StandsIn (g : File) (size : ℕ) (value : List ℕ) (head beyond : ℕ) : Type 0 where
  pub pieces : List (List ℕ)
  pub full : AreFull (size - 26) pieces
  pub run : IsRun g 0 head pieces
  pub count : head + length pieces ≡ beyond
  pub joined_is : joined pieces ≡ value
  pub chain : IsChainOf g head pieces

-- in each file that keeps the pages of the chain they are a grove that is entered by the head, and hold the value
abbrev pub StoredValuesStand : Type 0
StoredValuesStand =
    (old new : Built) (value : List ℕ) (head : ℕ) (g : File) → HasChain old new value head → is_page_size old.size ≡ true → 0 < length value
    → 1 ≤ length old.pages → length new.pages < 2 ^ 32
    → IsCounted g → IsLater (between (length old.pages) (length new.pages)) (file_so_far new) g → StandsIn g old.size value head (length new.pages)

-- page 0 of an image says the size, the order and the number of its pages, and that it's no queue
pub record TellsPages (built : Built) (image : List ℕ) : Type 0 where
  pub size : (head_of image).page_size ≡ built.size
  pub order : (head_of image).order ≡ built.order
  pub last : (head_of image).last + 1 ≡ length built.pages
  pub pages : (head_of image).pages ≡ length built.pages
  pub kind : (head_of image).kind ≡ Queue → ⊥

-- an image is a later file than any pages of it
pub record IsLaterImage (built : Built) (image : List ℕ) : Type 0 where
  pub counted : IsCounted (file_of image)
  pub later : (pages : ℕ → Bool) → ((p : ℕ) → pages p ≡ true → p < length built.pages) → IsLater pages (file_so_far built) (file_of image)

-- all pages, joined, are the image of a later file
abbrev pub ImagesAreLater : Type 0
ImagesAreLater = (built : Built) (image : List ℕ) → AreWhole built → image ≡ joined_pages built.pages → TellsPages built image → IsLaterImage built image
