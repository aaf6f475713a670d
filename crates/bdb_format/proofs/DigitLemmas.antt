-- Decimal digits, read from the high end on.
use Rattle.std.proofs.Common.{◌≡◌, ℕ, suc, ◌+◌, ◌-◌, ◌*◌, ◌^◌, ◌<◌, ◌≤◌, Bool, true, false, cond, List, length, take, get_or, Some, None, arith, sym, ◌∙◌, ap}
use Rattle.std.specs.Prelude.{nat_le, ◌&&◌}
use Rattle.std.specs.List.{list_all}
use Rattle.std.proofs.lemmas.Bool.{and_from, and_left, and_parts, and_right, le-leb, leb-true, lt-leb}
use Rattle.std.proofs.lemmas.List.{take_all}
use Rattle.std.proofs.lemmas.List.Folds.{list_all_at, list_all_more}
use Rattle.std.proofs.lemmas.List.Sums.{fold_more}
use Rattle.std.proofs.Math.Nat.{pow-le-pow_right, pow-suc}
use Rattle.bdb_format.specs.Terms.{digits_value, is_digit, is_number, number_in}

-- Texts that are no numbers.

abbrev has_room : List ℕ → Bool
has_room key = nat_le 1 (length key) && nat_le (length key) 10

fails : (key : List ℕ) → is_number key ≡ false → None ≡ number_in key
fails key test = ap (λ b. cond b (Some (digits_value key)) None) (sym test)

pub no_digits : (key : List ℕ) → length key ≡ 0 → None ≡ number_in key
no_digits key none = fails key (and_left (has_room key) (list_all is_digit key)
    (and_left (nat_le 1 (length key)) (nat_le (length key) 10) (lt-leb 1 (length key) (omega arith))))

pub many_digits : (key : List ℕ) → 10 < length key → None ≡ number_in key
many_digits key many = fails key (and_left (has_room key) (list_all is_digit key)
    (and_right (nat_le 1 (length key)) (nat_le (length key) 10) (lt-leb (length key) 10 many)))

pub wrong_digit : (key : List ℕ) (i : ℕ) → i < length key → is_digit (get_or key i 0) ≡ false → None ≡ number_in key
wrong_digit key i below wrong = fails key (and_right (has_room key) (list_all is_digit key) (list_all_at is_digit key i 0 below wrong))

-- Numbers.

pub whole_number : (key : List ℕ) (i number : ℕ) → 1 ≤ length key → length key ≤ 10 → length key ≤ i → list_all is_digit (take i key) ≡ true
    → number ≡ digits_value (take i key) → Some number ≡ number_in key
whole_number key i number some few past all is = grind (arith, take_all, and_from, le-leb, Some, None)

-- One digit more.

pub more_digits : (key : List ℕ) (i : ℕ) → i < length key → list_all is_digit (take i key) ≡ true → is_digit (get_or key i 0) ≡ true
    → list_all is_digit (take (i + 1) key) ≡ true
more_digits key i below all one = list_all_more is_digit key i 0 below ∙ and_from (list_all is_digit (take i key)) (is_digit (get_or key i 0)) all one

pub next_value : (key : List ℕ) (i number : ℕ) → i < length key → number ≡ digits_value (take i key) → 10 * number + (get_or key i 0 - 48)
    ≡ digits_value (take (i + 1) key)
next_value key i number below is = ap (λ n. 10 * n + (get_or key i 0 - 48)) is ∙ sym (fold_more (λ n byte. 10 * n + (byte - 48)) 0 key i 0 below)

pub digit_low : (byte : ℕ) → is_digit byte ≡ true → 48 ≤ byte
digit_low byte is = leb-true 48 byte (and_parts (nat_le 48 byte) (nat_le byte 57) is).0

pub digit_high : (byte : ℕ) → is_digit byte ≡ true → byte ≤ 57
digit_high byte is = leb-true byte 57 (and_parts (nat_le 48 byte) (nat_le byte 57) is).1

-- i digits say a number below 10 ^ i
pub next_below : (number i byte : ℕ) → number < 10 ^ i → byte ≤ 57 → 10 * number + (byte - 48) < 10 ^ (i + 1)
next_below number i byte small high =
    let more : 10 ^ (i + 1) ≡ 10 ^ i * 10 = ap (λ n. 10 ^ n) (let same : i + 1 ≡ suc i = omega arith in same) ∙ pow-suc 10 i in
    omega arith

-- and so ten of them fit
pub next_fits : (number i byte : ℕ) → i < 10 → number < 10 ^ i → byte ≤ 57 → 10 * number + (byte - 48) < 2 ^ 64
next_fits number i byte few small high = grind (arith, pow-le-pow_right)

-- how digits are read
pub ruleset digits_read = (no_digits, many_digits, wrong_digit, whole_number, more_digits, next_value, digit_low, digit_high, next_below, next_fits)
