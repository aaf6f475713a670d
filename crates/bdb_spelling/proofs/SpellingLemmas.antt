-- Spellings of more bytes, and the digits of `hex`.
use Rattle.std.proofs.Common.{◌≡◌, ℕ, zero, suc, ◌+◌, ◌/◌, ◌%◌, ◌<◌, ◌≤◌, ◌==◌, ◌&&◌, Bool, true, false, inl, inr, List, [], ◌∷◌, ◌++◌, length, take, drop}
use Rattle.std.proofs.Common.{get_or, slice_index, ◌-◌, refl, sym, ap, ◌∙◌, arith, append_assoc, flat_map}
use Rattle.std.proofs.lemmas.List.{append-nil, take_more}
use Rattle.std.proofs.Math.Seq.{take-add}
use Rattle.std.proofs.lemmas.Bool.{and_parts, cases_lt, eqb-true}
use Rattle.std.proofs.lemmas.Grind.{flat_map-append}
use Rattle.hex.specs.Hex.{IsBytes, encode_lower, encode_with, lower_digits}
use Rattle.bdb_text_format.specs.Terms.{hex_digit, printed, spelling, two_digits}

-- The digits of `hex`.

-- whether the first n places of its table are the digits of their numbers, which computes
abbrev all_digits : ℕ → Bool
all_digits zero = true
all_digits (suc n) = (slice_index lower_digits n == hex_digit n) && all_digits n

all_digits-at : (n d : ℕ) → all_digits n ≡ true → d < n → slice_index lower_digits d ≡ hex_digit d
all_digits-at zero d h lt = absurd (omega arith)
all_digits-at (suc n) d h lt =
    let parts = and_parts (slice_index lower_digits n == hex_digit n) (all_digits n) h in
    elim (cases_lt d n) [
      | inl below ↦ all_digits-at n d parts.1 below
      | inr top ↦
          let e : d ≡ n = omega arith in
          rw e (eqb-true (slice_index lower_digits n) (hex_digit n) parts.0)
    ]

-- its table has the digit of each number below 16
pub lower_digit : (d : ℕ) → d < 16 → slice_index lower_digits d ≡ hex_digit d
lower_digit d h = all_digits-at 16 d refl h

-- its lower-case text of bytes is their spelling by digits
pub encode_lower-spelling : (bytes : List ℕ) → IsBytes bytes → encode_lower bytes ≡ spelling false bytes
unfolding encode_with spelling
encode_lower-spelling [] h = refl
encode_lower-spelling (b ∷ bytes) h =
    let fits : b < 256 = h 0 in
    let high = lower_digit (b / 16) (omega arith) in
    let low = lower_digit (b % 16) (omega arith) in
    let rest = encode_lower-spelling bytes (λ k. h (suc k)) in
    rw (high, low, rest) refl

pub encode_lower-byte : (b : ℕ) → b < 256 → encode_lower (b ∷ []) ≡ two_digits b
unfolding encode_with
encode_lower-byte b fits =
    let high = lower_digit (b / 16) (omega arith) in
    let low = lower_digit (b % 16) (omega arith) in
    rw (high, low) refl

-- More bytes.

pub spelling-append : (print : Bool) (a b : List ℕ) → spelling print (a ++ b) ≡ spelling print a ++ spelling print b
unfolding spelling
spelling-append true a b = flat_map-append printed a b
spelling-append false a b = flat_map-append two_digits a b

-- nothing more
pub spelled_none : (print : Bool) (old : List ℕ) → old ≡ old ++ spelling print []
unfolding spelling
spelled_none true old = sym (append-nil old)
spelled_none false old = sym (append-nil old)

-- one byte more
pub printed_more : (old now new bytes : List ℕ) (i : ℕ) → i < length bytes → now ≡ old ++ spelling true (take i bytes) → new ≡ now ++ printed (get_or bytes i 0)
    → new ≡ old ++ spelling true (take (i + 1) bytes)
unfolding spelling
printed_more old now new bytes i h e f =
    let one : flat_map printed (get_or bytes i 0 ∷ []) ≡ printed (get_or bytes i 0) = append-nil (printed (get_or bytes i 0)) in
    let more = ap (spelling true) (take_more bytes i 0 h) ∙ spelling-append true (take i bytes) (get_or bytes i 0 ∷ []) in
    f ∙ ap (λ (xs : List ℕ). xs ++ printed (get_or bytes i 0)) e ∙ append_assoc old (spelling true (take i bytes)) (printed (get_or bytes i 0))
    ∙ ap (λ (xs : List ℕ). old ++ (spelling true (take i bytes) ++ xs)) (sym one) ∙ ap (λ (xs : List ℕ). old ++ xs) (sym more)

-- a piece more
pub digits_more : (old now new bytes : List ℕ) (i n : ℕ) → i ≤ n → now ≡ old ++ spelling false (take i bytes)
    → new ≡ now ++ spelling false (take (n - i) (drop i bytes)) → new ≡ old ++ spelling false (take n bytes)
digits_more old now new bytes i n h e f =
    let piece : List ℕ = take (n - i) (drop i bytes) in
    let size : i + (n - i) ≡ n = omega arith in
    let all : take i bytes ++ piece ≡ take n bytes = sym (take-add i (n - i) bytes) ∙ ap (λ (k : ℕ). take k bytes) size in
    f ∙ ap (λ (xs : List ℕ). xs ++ spelling false piece) e ∙ append_assoc old (spelling false (take i bytes)) (spelling false piece)
    ∙ ap (λ (xs : List ℕ). old ++ xs) (sym (spelling-append false (take i bytes) piece) ∙ ap (spelling false) all)
