-- Numbers of one to ten decimal digits. Source: docs/FORMAT.md, "Databases of a file".
use Rattle.std.specs.Prelude.{ℕ, ◌+◌, ◌-◌, ◌*◌, nat_le, ◌&&◌, if◌then◌else◌, Bool, List, length, Option, Some, None}
use Rattle.std.specs.List.{fold, list_all}

abbrev pub is_digit : ℕ → Bool
is_digit byte = nat_le 48 byte && nat_le byte 57

-- what decimal digits say, from the high end on
abbrev pub digits_value : List ℕ → ℕ
digits_value text = fold (λ n byte. 10 * n + (byte - 48)) 0 text

abbrev pub is_number : List ℕ → Bool
is_number text = nat_le 1 (length text) && nat_le (length text) 10 && list_all is_digit text

-- the number that a text of one to ten decimal digits says
abbrev pub number_in : List ℕ → Option ℕ
number_in text = if is_number text then Some (digits_value text) else None
