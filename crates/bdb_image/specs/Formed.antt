-- What is known of an image once its page 0, and then all its pages, have no fault of form.
use Rattle.std.specs.Prelude.{◌≡◌, ◌≤◌, ◌^◌, ℕ, List, [], ◌∷◌, length, Option, Some, None, true}
use Rattle.bdb_faults.specs.of_format.declared.metadata.Head.{Head}
use Rattle.bdb_faults.specs.of_format.Terms.{faults_in, first_row, head_of, head_rows}
use Rattle.bdb_slots.specs.Plain.{ArePlain}
use Rattle.bdb_image.specs.declared.open.Read.{Read}

-- no row of page 0 that speaks of the file holds
pub record IsAccepted (image : List ℕ) (head : Head) : Type 0 where
  pub size : length image ≤ 2 ^ 30
  pub head_is : head ≡ head_of image
  pub accepted : first_row (head_rows image) ≡ None

-- no row of the first two stages holds
pub record IsFormed (image : List ℕ) (head : Head) : Type 0 where
  pub size : length image ≤ 2 ^ 30
  pub head_is : head ≡ head_of image
  pub form : faults_in (1 ∷ 2 ∷ []) image ≡ []

-- what was read of page 0 is accepted, and of the other pages is so, or there is a fault
abbrev pub IsRead : List ℕ → Option Read → Type 0
IsRead image None = faults_in (1 ∷ 2 ∷ []) image ≡ [] → ⊥
IsRead image (Some read) = IsAccepted image read.head × (read.plain ≡ true → ArePlain read.head image)
