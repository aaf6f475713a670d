-- The pages below each metadata page, in their order: of each page the next one below the same.
use Rattle.std.specs.Prelude.{◌≡◌, ℕ, ◌+◌, ◌-◌, ◌<◌, ◌≤◌, ◌==◌, Bool, false, List, [], length, get_or, Option, Some, None}
use Rattle.std.specs.List.{filter, find, range_with_len}

-- a value is there, and is this one
abbrev pub is_some_of : ℕ → Option ℕ → Bool
is_some_of m None = false
is_some_of m (Some n) = n == m

-- a page is below this one
abbrev pub is_below : List (Option ℕ) → ℕ → ℕ → Bool
is_below above m q = is_some_of m (get_or above q None)

-- the pages from one on
abbrev pub from_page : List (Option ℕ) → ℕ → List ℕ
from_page above p = range_with_len p (length above - p)

-- the first of these that is below a page, and all of them
abbrev pub first_from : List (Option ℕ) → ℕ → ℕ → Option ℕ
first_from above m p = find (is_below above m) (from_page above p)

abbrev pub row_from : List (Option ℕ) → ℕ → ℕ → List ℕ
row_from above m p = filter (is_below above m) (from_page above p)

-- the first page and the next ones are kept of the pages from one on
pub record AreRows (above first next : List (Option ℕ)) (from : ℕ) : Type 0 where
  pub first_len : length first ≡ length above
  pub next_len : length next ≡ length above
  pub within : from ≤ length above
  pub firsts : (m : ℕ) → m < length above → get_or first m None ≡ first_from above m from
  pub nexts : (p m : ℕ) → from ≤ p → p < length above → get_or above p None ≡ Some m → get_or next p None ≡ first_from above m (p + 1)

-- what is left of a row
abbrev pub row_left : List (Option ℕ) → ℕ → Option ℕ → List ℕ
row_left above m None = []
row_left above m (Some p) = row_from above m p

-- the page where a row goes on is below, and there
pub record IsAt (above next : List (Option ℕ)) (m : ℕ) (at : Option ℕ) : Type 0 where
  pub nexts : (p : ℕ) → p < length above → get_or above p None ≡ Some m → get_or next p None ≡ first_from above m (p + 1)
  pub next_len : length next ≡ length above
  pub there : (p : ℕ) → at ≡ Some p → p < length above
  pub below : (p : ℕ) → at ≡ Some p → get_or above p None ≡ Some m

-- pages are below pages that are there
abbrev pub AreBelow : List (Option ℕ) → Type 0
AreBelow above = (p m : ℕ) → get_or above p None ≡ Some m → m < length above

-- all rows are kept
pub record IsRows (above first next : List (Option ℕ)) : Type 0 where
  pub rows : AreRows above first next 0
  pub within : AreBelow above
