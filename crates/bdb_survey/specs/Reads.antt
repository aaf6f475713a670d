-- What is known of an image that is read by a guess.
use Rattle.std.specs.Prelude.{◌≡◌, ◌^◌, ◌≤◌, ℕ, List, length, true}
use Rattle.bdb_law_sums.specs.of_format.Terms.{is_page_size}

-- the page size is a legal one, and the image isn't too long
pub record IsRead (size : ℕ) (image : List ℕ) : Type 0 where
  pub legal : is_page_size size ≡ true
  pub small : length image ≤ 2 ^ 30
