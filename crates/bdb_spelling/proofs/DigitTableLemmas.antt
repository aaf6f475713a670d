-- Tables of digits.
use Rattle.std.proofs.Common.{◌≡◌, ℕ, zero, suc, ◌<◌, ◌==◌, ◌&&◌, Bool, true, inl, inr, get_or, List, arith}
use Rattle.std.proofs.lemmas.Bool.{and_parts, cases_eq, eqb-true}

-- whether a table has the first n of these numbers, which computes
abbrev pub has_below : List ℕ → (ℕ → ℕ) → ℕ → Bool
has_below table f zero = true
has_below table f (suc n) = (get_or table n 0 == f n) && has_below table f n

pub has_at : (table : List ℕ) (f : ℕ → ℕ) (n : ℕ) → has_below table f n ≡ true → (d : ℕ) → d < n → get_or table d 0 ≡ f d
has_at table f zero h d low = absurd (omega arith)
has_at table f (suc n) h d low =
    let parts = and_parts (get_or table n 0 == f n) (has_below table f n) h in
    elim (cases_eq d n) [
      | inl same ↦ rw same (eqb-true (get_or table n 0) (f n) parts.0)
      | inr other ↦ has_at table f n parts.1 d (omega arith)
    ]

-- a table of all bytes has the number of a byte
pub from_table : (table : List ℕ) (f : ℕ → ℕ) (d : ℕ) → d < 256 → has_below table f 256 ≡ true → get_or table d 0 ≡ f d
from_table table f d low h = has_at table f 256 h d low
