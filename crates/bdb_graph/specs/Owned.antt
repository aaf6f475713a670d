-- How many owners each page has, as it's kept. Source: docs/FORMAT.md, "Stage 4, ownership".
use Rattle.std.specs.Prelude.{◌≡◌, ℕ, ◌^◌, ◌<◌, ◌≤◌, ◌||◌, min, false, List, length, get_or}
use Rattle.bdb_image.specs.of_format.Terms.{File, has_heads_alone, is_owned_twice, is_shared_too_often, owners}
use Rattle.bdb_graph.specs.Tallies.{counted_to}

-- these have the number of owners of each page from 1 on
pub record AreOwned (file : File) (counts : List ℕ) : Type 0 where
  pub each : (p : ℕ) → 1 ≤ p → p ≤ file.last → get_or counts p 0 ≡ length (owners file p)

-- so many owners of a page are counted, as far as owners are
abbrev pub IsCounted : File → ℕ → ℕ → Type 0
IsCounted file p count = min (counted_to (has_heads_alone file p)) count ≡ min (counted_to (has_heads_alone file p)) (length (owners file p))

-- these are the counts of all pages
pub record AreCounts (file : File) (counts : List ℕ) : Type 0 where
  pub each : (p : ℕ) → p ≤ file.last → IsCounted file p (get_or counts p 0)

-- a page with no more owners than it may have has few
abbrev pub IsFew : File → ℕ → Type 0
IsFew file p = (is_shared_too_often file p || is_owned_twice file p) ≡ false → length (owners file p) < 2 ^ 16

-- so has each page from 1 on and below a number
pub record AreFew (file : File) (n : ℕ) : Type 0 where
  pub each : (p : ℕ) → 1 ≤ p → p < n → IsFew file p
