-- A number that is read from its high end and written from its low end.
use Rattle.std.proofs.Common.{◌≡◌, ◌∙◌, inl, inr, ℕ, zero, suc, ◌+◌, ◌-◌, ◌*◌, ◌/◌, ◌%◌, ◌^◌, ◌<◌, ◌≤◌, List, [], ◌∷◌, ◌++◌, length, drop, reverse, get_or}
use Rattle.std.proofs.Common.{refl, sym, ap, arith, slice_range}
use Rattle.std.specs.Int.{byte_at, bytes_low_first}
use Rattle.std.proofs.Math.Nat.{div-div-eq-div-mul, div-one, pow-succ'}
use Rattle.std.proofs.lemmas.Bool.{cases_lt}
use Rattle.std.proofs.lemmas.List.{get_or-drop, get_or-reverse, get_or-take, get_or_past, length-reverse, take_all}
use borrow.Rule.Slice.PartMut.{put_mid}
use Rattle.byteorder.specs.Endian.{big_number, little_bytes}
use Rattle.bdb_io.specs.of_format.Terms.{from_low_end, overwritten}
use Rattle.bdb_io.proofs.of_format.TurnLemmas.{length-slice_range}
use Rattle.bdb_law_turned.proofs.of_layout.NumberLemmas.{big_from-is, put_piece}

-- each is a byte
abbrev EachIsByte : List ℕ → Type 0
EachIsByte bytes = (i : ℕ) → get_or bytes i 0 < 256

byte_at-pow : (k x : ℕ) → byte_at k x ≡ x / 256 ^ k % 256
byte_at-pow zero x = ap (λ (y : ℕ). y % 256) (sym (div-one x))
byte_at-pow (suc k) x = refl

-- the bytes of a number above its lowest
byte_above : (i low x : ℕ) → low < 256 → byte_at (suc i) (low + 256 * x) ≡ byte_at i x
byte_above i low x fits =
    let rest : (low + 256 * x) / 256 ≡ x = omega arith in
    ap (λ (p : ℕ). (low + 256 * x) / p % 256) (pow-succ' 256 i)
    ∙ ap (λ (y : ℕ). y % 256) (sym (div-div-eq-div-mul (low + 256 * x) 256 (256 ^ i)))
    ∙ ap (λ (y : ℕ). y / 256 ^ i % 256) rest ∙ sym (byte_at-pow i x)

bytes_above : (i n low x : ℕ) → low < 256 → bytes_low_first (suc i) n (low + 256 * x) ≡ bytes_low_first i n x
bytes_above i zero low x fits = refl
bytes_above i (suc n) low x fits = rw (byte_above i low x fits, bytes_above (suc i) n low x fits) refl

-- bytes are those of the number that they spell
bytes_of_number : (bytes : List ℕ) → EachIsByte bytes → bytes_low_first 0 (length bytes) (from_low_end bytes) ≡ bytes
bytes_of_number [] fit = refl
bytes_of_number (low ∷ bytes) fit =
    let first : low < 256 = fit 0 in
    let lowest : (low + 256 * from_low_end bytes) % 256 ≡ low = omega arith in
    rw (lowest, bytes_above 0 (length bytes) low (from_low_end bytes) first, bytes_of_number bytes (λ i. fit (suc i))) refl

bytes_reversed : (bytes : List ℕ) → EachIsByte bytes → EachIsByte (reverse bytes)
bytes_reversed bytes fit i = elim (cases_lt i (length bytes)) [
  | inl inside ↦ rw (get_or-reverse bytes i 0 inside) (fit (length bytes - 1 - i))
  | inr past ↦ rw (get_or_past (reverse bytes) i 0 (omega (arith, length-reverse bytes))) (omega arith)
]

little_of_big : (bytes : List ℕ) → EachIsByte bytes → little_bytes (length bytes) (big_number (length bytes) bytes) ≡ reverse bytes
little_of_big bytes fit =
    ap (bytes_low_first 0 (length bytes)) (big_from-is 0 (length bytes) bytes (omega arith)
    ∙ ap (λ bs. from_low_end (reverse bs)) (take_all (length bytes) bytes (omega arith)))
    ∙ ap (λ n. bytes_low_first 0 n (from_low_end (reverse bytes))) (sym (length-reverse bytes))
    ∙ bytes_of_number (reverse bytes) (bytes_reversed bytes fit)

bytes_between : (bytes : List ℕ) (at n : ℕ) → EachIsByte bytes → at + n ≤ length bytes → EachIsByte (slice_range bytes at (at + n))
bytes_between bytes at n fit inside i =
    let long : length (slice_range bytes at (at + n)) ≡ at + n - at = length-slice_range bytes at (at + n) inside in
    elim (cases_lt i (at + n - at)) [
      | inl within ↦ rw (get_or-take (at + n - at) (drop at bytes) i 0 within, get_or-drop at bytes i 0) (fit (at + i))
      | inr past ↦ rw (get_or_past (slice_range bytes at (at + n)) i 0 (omega arith)) (omega arith)
    ]

-- a number that is read from n bytes of one list, its high end first, and written at the same place of another, its low end first
pub put_turned : (source page part : List ℕ) (at n x : ℕ) → ((i : ℕ) → get_or source i 0 < 256) → at + n ≤ length source
    → x ≡ big_number n (slice_range source at (at + n))
    → part ≡ little_bytes n x ++ drop n (slice_range page at (at + n)) → put_mid at (at + n - at) page part
    ≡ overwritten page at (reverse (slice_range source at (at + n)))
put_turned source page part at n x fit inside is wrote =
    let slice : List ℕ = slice_range source at (at + n) in
    let long : length slice ≡ n = length-slice_range source at (at + n) inside ∙ omega arith in
    let turned : little_bytes n x ≡ reverse slice =
    ap (little_bytes n) is ∙ ap (λ k. little_bytes k (big_number k slice)) (sym long) ∙ little_of_big slice (bytes_between source at n fit inside) in
    put_piece at n page part (reverse slice) (length-reverse slice ∙ long) (wrote ∙ ap (λ bs. bs ++ drop n (slice_range page at (at + n))) turned)
