-- The places of a page where items begin, marked by 1.
use Rattle.std.specs.Prelude.{◌≡◌, false, true, ◌<◌, ◌≤◌, ℕ, ◌==◌, List, length, slice_index}
use Rattle.std.specs.List.{list_any, range_with_len}

-- a place is marked exactly where one of the first n items begins there
abbrev pub AreStarts : List ℕ → ℕ → (ℕ → ℕ) → Type 0
AreStarts starts n begin = (k : ℕ) → k < length starts → (slice_index starts k == 1) ≡ list_any (λ i. begin i == k) (range_with_len 0 n)

-- no place from one up to another is marked
abbrev pub NoStart : List ℕ → ℕ → ℕ → Type 0
NoStart starts from to = (k : ℕ) → from ≤ k → k < to → (slice_index starts k == 1) ≡ false

-- the first marked place from one on
pub record IsNext (starts : List ℕ) (from at : ℕ) : Type 0 where
  pub low : from ≤ at
  pub high : at < length starts
  pub marked : (slice_index starts at == 1) ≡ true
  pub none : NoStart starts from at
