-- An image whose pages can be byte-swapped.
use Rattle.std.specs.Prelude.{◌≡◌, ◌<◌, ℕ, List, None, false, true}
use Rattle.bdb_io.specs.of_format.declared.metadata.Head.{Head}
use Rattle.bdb_io.specs.of_format.Terms.{form_code, is_zero, page_bytes}
use Rattle.bdb_law_turned.specs.of_image.Formed.{IsAccepted}

-- page 0 is accepted, no row of form holds for a page that isn't zero, and those above the last page are zero
pub record HasForm (head : Head) (image : List ℕ) : Type 0 where
  pub accepted : IsAccepted image head
  pub formed : (p : ℕ) → p < head.pages → is_zero (page_bytes head image p) ≡ false → form_code head p (page_bytes head image p) ≡ None
  pub zeros : (p : ℕ) → head.last < p → p < head.pages → is_zero (page_bytes head image p) ≡ true
