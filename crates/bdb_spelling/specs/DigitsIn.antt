-- Digits in a base, read from the high end on.
use Rattle.std.specs.Prelude.{ℕ, ◌+◌, ◌*◌, nat_lt, nat_le, ◌&&◌, if◌then◌else◌, Bool, false, List, [], ◌∷◌, drop, length, Option, Some, None, codes, take}
use Rattle.std.specs.Str.{bytes_eq}
use Rattle.bdb_text_format.specs.Terms.{digit_value, or_zero}

-- whether a digit is one of the base
abbrev pub is_below : ℕ → Option ℕ → Bool
is_below base None = false
is_below base (Some value) = nat_lt value base

-- whether a byte is a digit of the base
abbrev pub is_digit_of : ℕ → ℕ → Bool
is_digit_of base byte = is_below base (digit_value byte)

-- the number that digits say behind those that say n, where each is a digit of the base
abbrev pub digits_from : ℕ → ℕ → List ℕ → Option ℕ
digits_from base n [] = Some n
digits_from base n (byte ∷ text) = if is_digit_of base byte then digits_from base (base * n + or_zero (digit_value byte)) text else None

-- the number that digits say
abbrev pub digits_in : ℕ → List ℕ → Option ℕ
digits_in base text = digits_from base 0 text

-- `0x` and one to eight digits
abbrev pub hexadecimal : List ℕ → Option ℕ
hexadecimal text = if bytes_eq (take 2 text) (codes "0x") && nat_le 3 (length text) && nat_le (length text) 10 then digits_in 16 (drop 2 text) else None
