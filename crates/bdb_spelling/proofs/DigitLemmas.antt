-- Digits in a base.
use Rattle.std.proofs.Common.{◌≡◌, ℕ, suc, ◌+◌, ◌-◌, ◌*◌, ◌^◌, ◌<◌, ◌≤◌, ◌&&◌, nat_le, if◌then◌else◌, Bool, true, false, List, [], ◌∷◌, length, drop, take}
use Rattle.std.proofs.Common.{codes, not, length-drop, get_or, Some, None, is_some, refl, sym, ap, ◌∙◌, arith, nat_lt}
use Rattle.std.specs.Str.{bytes_eq}
use Rattle.std.specs.List.{fold, list_all}
use Rattle.std.proofs.Math.Seq.{drop-cons}
use Rattle.std.proofs.Math.Nat.{mul-le-mul_right, pow-le-pow_right, pow-suc}
use Rattle.std.proofs.lemmas.Bool.{le-leb}
use Rattle.std.proofs.lemmas.List.{take_all}
use Rattle.std.proofs.lemmas.Bool.Decides.{nat_tests}
use Rattle.bdb_text_format.specs.of_format.Terms.{digits_value, is_number, number_in}
use Rattle.bdb_text_format.specs.Terms.{digit_value, hex_value, is_hex, number_read, or_zero}
use Rattle.bdb_spelling.specs.DigitsIn.{digits_from, digits_in, hexadecimal, is_digit_of}

-- One digit more.

pub digit_more : (base n : ℕ) (text : List ℕ) (i value : ℕ) → i < length text → digit_value (get_or text i 0) ≡ Some value → nat_lt value base ≡ true
    → digits_from base n (drop i text) ≡ digits_from base (base * n + value) (drop (i + 1) text)
digit_more base n text i value below is small =
    let one : i + 1 ≡ suc i = omega arith in
    ap (digits_from base n) (drop-cons text i 0 below) ∙ rw (is, small, one) refl

-- i digits of a base of at most 16 say a number below 16 ^ i
pub next_below : (base n i value : ℕ) → base ≤ 16 → n < 16 ^ i → value < base → base * n + value < 16 ^ (i + 1)
next_below base n i value small below low =
    let more : 16 ^ (i + 1) ≡ 16 ^ i * 16 = ap (λ k. 16 ^ k) (let same : i + 1 ≡ suc i = omega arith in same) ∙ pow-suc 16 i in
    let most : base * n ≤ 16 * n = mul-le-mul_right n small in
    omega arith

-- and so ten of them fit
pub next_fits : (base n i value : ℕ) → base ≤ 16 → i < 10 → n < 16 ^ i → value < base → base * n + value < 2 ^ 64
next_fits base n i value small few below low =
    let next = next_below base n i value small below low in
    let some : 0 < 16 = omega arith in
    let short : i + 1 ≤ 10 = omega arith in
    let most : 16 ^ (i + 1) ≤ 16 ^ 10 = pow-le-pow_right some short in
    omega arith

-- The two bases.

hex_digit_below : (byte : ℕ) → is_digit_of 16 byte ≡ is_some (digit_value byte)
hex_digit_below byte = grind (arith, nat_tests)

abbrev hex_fold : ℕ → List ℕ → ℕ
hex_fold n text = fold (λ (n digit : ℕ). 16 * n + or_zero (digit_value digit)) n text

hex_by : (n byte : ℕ) (text : List ℕ) (digit : Bool) → is_some (digit_value byte) ≡ digit
    → ((m : ℕ) → digits_from 16 m text ≡ (if list_all (λ (d : ℕ). is_some (digit_value d)) text then Some (hex_fold m text) else None))
    → digits_from 16 n (byte ∷ text)
    ≡ (if is_some (digit_value byte) && list_all (λ (d : ℕ). is_some (digit_value d)) text then Some (hex_fold (16 * n + or_zero (digit_value byte)) text) else
    None)
hex_by n byte text true is more = rw (hex_digit_below byte, is) (more (16 * n + or_zero (digit_value byte)))
hex_by n byte text false is more = rw (hex_digit_below byte, is) refl

hex_all : (n : ℕ) (text : List ℕ) → digits_from 16 n text ≡ (if list_all (λ (d : ℕ). is_some (digit_value d)) text then Some (hex_fold n text) else None)
hex_all n [] = refl
hex_all n (byte ∷ text) = hex_by n byte text (is_some (digit_value byte)) refl (λ m. hex_all m text)

-- Values of header lines.

and_if : {T : Type 0} (a b : Bool) (x : T) → (if a then (if b then Some x else None) else None) ≡ (if a && b then Some x else None)
and_if true b x = refl
and_if false b x = refl

pub hexadecimal_is : (text : List ℕ) → hexadecimal text ≡ (if is_hex text then Some (hex_value (drop 2 text)) else None)
hexadecimal_is text =
    rw (hex_all 0 (drop 2 text))
    (and_if (bytes_eq (take 2 text) (codes "0x") && nat_le 3 (length text) && nat_le (length text) 10)
    (list_all (λ (d : ℕ). is_some (digit_value d)) (drop 2 text)) (hex_value (drop 2 text)))

no_number_by : (text : List ℕ) (is : Bool) → is_number text ≡ is → number_in text ≡ None → number_read text ≡ hexadecimal text
no_number_by text true is none =
    let some : None ≡ Some (digits_value text) = sym none ∙ rw is refl in
    cc
no_number_by text false is none = rw (is, hexadecimal_is text) refl

pub no_number : (text : List ℕ) → number_in text ≡ None → number_read text ≡ hexadecimal text
no_number text none = no_number_by text (is_number text) refl none

not-false_is : (b : Bool) → false ≡ not b → b ≡ true
not-false_is true h = refl
not-false_is false h = h

-- as the code has what stands behind `0x`
abbrev pub behind_prefix : List ℕ → List ℕ
behind_prefix value = take (length value - 2) (drop 2 value)

behind_prefix-drop : (value : List ℕ) → behind_prefix value ≡ drop 2 value
behind_prefix-drop value = let size = length-drop 2 value in take_all (length value - 2) (drop 2 value) (omega arith)

pub length-behind_prefix : (value : List ℕ) → length (behind_prefix value) ≡ length value - 2
length-behind_prefix value = rw (behind_prefix-drop value) (length-drop 2 value)

pub some_hexadecimal : (value prefix : List ℕ) (n : ℕ) → prefix ≡ codes "0x" → false ≡ not (bytes_eq (take 2 value) prefix) → 3 ≤ length value
    → length value ≤ 10
    → Some n ≡ digits_in 16 (behind_prefix value) → Some n ≡ hexadecimal value
some_hexadecimal value prefix n same is long short digits =
    let zero_x : bytes_eq (take 2 value) (codes "0x") ≡ true = not-false_is (bytes_eq (take 2 value) (codes "0x")) (is
    ∙ ap (λ (p : List ℕ). not (bytes_eq (take 2 value) p)) same) in
    rw (zero_x, le-leb 3 (length value) long, le-leb (length value) 10 short) (digits ∙ ap (digits_in 16) (behind_prefix-drop value))

pub no_hexadecimal : (value prefix : List ℕ) → prefix ≡ codes "0x" → false ≡ not (bytes_eq (take 2 value) prefix) → 3 ≤ length value → length value ≤ 10
    → None ≡ digits_in 16 (behind_prefix value) → None ≡ hexadecimal value
no_hexadecimal value prefix same is long short digits =
    let zero_x : bytes_eq (take 2 value) (codes "0x") ≡ true = not-false_is (bytes_eq (take 2 value) (codes "0x")) (is
    ∙ ap (λ (p : List ℕ). not (bytes_eq (take 2 value) p)) same) in
    rw (zero_x, le-leb 3 (length value) long, le-leb (length value) 10 short) (digits ∙ ap (digits_in 16) (behind_prefix-drop value))

-- eight digits say a number below 2 ^ 32
pub eight_fit : (n k : ℕ) → n < 16 ^ k → k ≤ 8 → n < 2 ^ 32
eight_fit n k below few =
    let some : 0 < 16 = omega arith in
    let most : 16 ^ k ≤ 16 ^ 8 = pow-le-pow_right some few in
    omega arith
