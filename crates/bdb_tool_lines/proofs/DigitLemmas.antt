-- The digits of a number, from the low end on.
use Rattle.std.proofs.Common.{◌≡◌, ◌∙◌, ℕ, suc, zero, ◌+◌, ◌-◌, ◌*◌, ◌/◌, ◌%◌, ◌^◌, ◌<◌, ◌≤◌, List, [], ◌∷◌, ◌++◌, length, drop, set, ap, sym, subst, arith}
use Rattle.std.proofs.Common.{append_assoc, append-nil}
use Rattle.std.specs.Fmt.{decimal}
use Rattle.std.proofs.lemmas.Fmt.{decimal_digit, decimal_step}
use Rattle.std.proofs.Math.Nat.{pow-succ'}
use Rattle.std.proofs.lemmas.List.{drop-set, drop_all, length-set}

-- what is spelled of a number so far stands behind the digits that are left
pub record IsSpelled (number : ℕ) (bytes : List ℕ) (start left : ℕ) : Type 0 where
  pub room : length bytes ≡ 10
  pub within : start ≤ 10
  pub some : 0 < start
  pub low : left < 10 ^ start
  pub so_far : decimal number ≡ decimal left ++ drop start bytes

pub begins : (number : ℕ) (bytes : List ℕ) → length bytes ≡ 10 → number < 2 ^ 32 → IsSpelled number bytes 10 number
begins number bytes room low = record {
  room = room;
  within = omega arith;
  some = omega arith;
  low = omega arith;
  so_far = sym (append-nil (decimal number)) ∙ ap (λ rest. decimal number ++ rest) (sym (drop_all 10 bytes (omega arith)));
}

behind : (number : ℕ) (bytes : List ℕ) (start left byte : ℕ) → IsSpelled number bytes start left → drop (start - 1) (set bytes (start - 1) byte) ≡ byte
    ∷ drop start bytes
behind number bytes start left byte is =
    let some = is.some in
    let within = is.within in
    let room = is.room in
    let same : start - 1 + 1 ≡ start = omega arith in
    drop-set bytes (start - 1) byte (omega arith) ∙ ap (λ n. byte ∷ drop n bytes) same

tenth : (a b : ℕ) → a < 10 * b → a / 10 < b
tenth a b low = omega arith

mod_small : (n : ℕ) → n < 10 → n % 10 ≡ n
mod_small n low = omega arith

-- one more digit
pub next_digit : (number : ℕ) (bytes : List ℕ) (start left : ℕ) → number < 2 ^ 32 → left ≤ number → 10 ≤ left → IsSpelled number bytes start left
    → IsSpelled number (set bytes (start - 1) (48 + left % 10)) (start - 1) (left / 10)
next_digit number bytes start left small under many is = record {
  room = length-set bytes (start - 1) (48 + left % 10) ∙ is.room;
  within = let upper = is.within in omega arith;
  some = two start is.low;
  low = fewer start is.some is.low;
  so_far =
      is.so_far
      ∙ ap (λ begun. begun ++ drop start bytes) (decimal_step left many (omega arith))
      ∙ append_assoc (decimal (left / 10)) ((48 + left % 10) ∷ []) (drop start bytes)
      ∙ ap (λ rest. decimal (left / 10) ++ rest) (sym (behind number bytes start left (48 + left % 10) is));
}
  where
    two : (n : ℕ) → left < 10 ^ n → 0 < n - 1
    two zero low = omega arith
    two (suc zero) low = omega arith
    two (suc (suc n)) low = omega arith

    fewer : (n : ℕ) → 0 < n → left < 10 ^ n → left / 10 < 10 ^ (n - 1)
    fewer zero some low = absurd (omega arith)
    fewer (suc n) some low =
        let same : suc n - 1 ≡ n = omega arith in
        let tenfold : 10 ^ suc n ≡ 10 * 10 ^ n = pow-succ' 10 n in
        subst (λ k. left / 10 < 10 ^ k) (sym same) (tenth left (10 ^ n) (omega (arith, tenfold)))

-- the last digit
pub last_digit : (number : ℕ) (bytes : List ℕ) (start left : ℕ) → left < 10 → IsSpelled number bytes start left
    → drop (start - 1) (set bytes (start - 1) (48 + left % 10)) ≡ decimal number
last_digit number bytes start left one is =
    behind number bytes start left (48 + left % 10) is
    ∙ ap (λ d. (48 + d) ∷ drop start bytes) (mod_small left one)
    ∙ sym (is.so_far ∙ ap (λ begun. begun ++ drop start bytes) (decimal_digit left one))
