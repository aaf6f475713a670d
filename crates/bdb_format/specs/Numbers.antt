-- Numbers of a page, in either order of their bytes. Source: docs/FORMAT.md, "Words".
use Rattle.std.specs.Prelude.{ℕ, ◌+◌, ◌*◌, ◌/◌, ◌==◌, Bool, not, List, [], ◌∷◌, ◌++◌, length, take, drop, reverse, slice_index, bit_and}
use Rattle.std.specs.Int.{bytes_high_first, bytes_low_first}
use Rattle.bdb_format.specs.declared.kinds.Order.{Order}
use Rattle.bdb_format.specs.declared.kinds.Order.TheVariants.{Big, Little}

-- each byte times 256 to the power of its distance from the low end, with which the bytes begin
abbrev pub from_low_end : List ℕ → ℕ
from_low_end [] = 0
from_low_end (b ∷ bs) = b + 256 * from_low_end bs

-- the number that the bytes spell: its low end comes first or last
abbrev pub number : Order → List ℕ → ℕ
number Little bytes = from_low_end bytes
number Big bytes = from_low_end (reverse bytes)

-- the number in the n bytes from a place
unfoldable pub number_at : ℕ → Order → List ℕ → ℕ → ℕ
number_at n order bytes at = number order (take n (drop at bytes))

abbrev pub two_at : Order → List ℕ → ℕ → ℕ
two_at order bytes at = number_at 2 order bytes at

abbrev pub four_at : Order → List ℕ → ℕ → ℕ
four_at order bytes at = number_at 4 order bytes at

-- the byte at a place
abbrev pub byte_at : List ℕ → ℕ → ℕ
byte_at bytes at = slice_index bytes at

-- the n bytes that spell a number
unfoldable pub spelled : ℕ → Order → ℕ → List ℕ
spelled n Little x = bytes_low_first 0 n x
spelled n Big x = bytes_high_first n x

-- the other order
abbrev pub turned : Order → Order
turned Little = Big
turned Big = Little

-- bytes with a piece written over them from a place on; all others stay
abbrev pub overwritten : List ℕ → ℕ → List ℕ → List ℕ
overwritten bytes at piece = take at bytes ++ (piece ++ drop (at + length piece) bytes)

-- one of these bits is set
abbrev pub has_bit : ℕ → ℕ → Bool
has_bit flags bits = not (bit_and flags bits == 0)

-- n rounded up to a multiple of 4
abbrev pub pad4 : ℕ → ℕ
pad4 n = (n + 3) / 4 * 4
