-- Places that are marked by the bits of words of 64 bits.
use Rattle.std.specs.Prelude.{◌≡◌, ◌<◌, ℕ, ◌*◌, ◌/◌, ◌%◌, List, get_or, length, map}
use Rattle.std.specs.Int.{bit_at}
use Rattle.std.specs.List.{range_with_len}

-- the mark of a place: 1 or 0
abbrev pub mark_at : List ℕ → ℕ → ℕ
mark_at words k = bit_at (get_or words (k / 64) 0) (k % 64)

-- those of all places
abbrev pub marks_of : List ℕ → List ℕ
marks_of words = map (mark_at words) (range_with_len 0 (64 * length words))

-- the first bit of a word that is set
pub record IsFirstBit (word bit : ℕ) : Type 0 where
  pub low : bit < 64
  pub set : bit_at word bit ≡ 1
  pub none : (i : ℕ) → i < bit → bit_at word i ≡ 0
