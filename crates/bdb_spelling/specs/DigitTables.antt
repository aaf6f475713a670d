-- What a digit adds to a byte, and 256 for a byte that is no digit: so a sum above 255 has one.
use Rattle.std.specs.Prelude.{ℕ, ◌*◌, Option, Some, None}
use Rattle.bdb_text_format.specs.Terms.{digit_value}

abbrev pub times_or_256 : ℕ → Option ℕ → ℕ
times_or_256 n None = 256
times_or_256 n (Some value) = n * value

-- what the first of two digits adds
abbrev pub high_part : ℕ → ℕ
high_part digit = times_or_256 16 (digit_value digit)

-- what the second of two digits adds
abbrev pub low_part : ℕ → ℕ
low_part digit = times_or_256 1 (digit_value digit)
