-- The marks of places, by the bits of words.
use Rattle.std.proofs.Common.{◌≡◌, ◌∙◌, ◌≢◌, bit_and, min, inl, inr, ℕ, ◌+◌, ◌-◌, ◌*◌, ◌/◌, ◌%◌, ◌^◌, ◌<◌, ◌≤◌, Bool, true, false, List, cond, length, get_or}
use Rattle.std.proofs.Common.{refl, sym, ap, arith, ◌==◌, MatchOption, None, Option, Some, slice_index}
use Rattle.std.specs.Int.{bit_at}
use Rattle.std.proofs.lemmas.Bool.{cases_lt, eq-eqb, eqb-true}
use Rattle.std.proofs.lemmas.List.{get_or_default}
use Rattle.std.proofs.lemmas.List.FromFn.{get_or-map-range_with_len, length-map-range_with_len}
use Rattle.std.proofs.lemmas.Nat.Bits.{bit_at-lt, bit_at-zero, bit_at_and, bit_at_mask_below, bit_at_mask_inside, ones_shl}
use Rattle.bdb_stat.specs.Marked.{IsFirstBit, mark_at, marks_of}
use Rattle.bdb_stat.specs.Starts.{IsNext, NoStart}

pub marks_long : (words : List ℕ) → length (marks_of words) ≡ 64 * length words
marks_long words = length-map-range_with_len (mark_at words) 0 (64 * length words)

-- the mark of a place
pub mark_is : (words : List ℕ) (k : ℕ) → k < 64 * length words → get_or (marks_of words) k 0 ≡ mark_at words k
mark_is words k low = get_or-map-range_with_len (mark_at words) 0 (64 * length words) k k 0 low (omega arith)

-- words that are 0 mark nothing
pub all_clear : (words : List ℕ) → ((j : ℕ) → j < length words → get_or words j 0 ≡ 0) → (k : ℕ) → k < length (marks_of words) → get_or (marks_of words) k 0 ≡ 0
all_clear words clear k low =
    mark_is words k (omega (arith, marks_long words))
    ∙ (ap (λ w. bit_at w (k % 64)) (clear (k / 64) (omega (arith, marks_long words))) ∙ bit_at-zero (k % 64))

-- a bit more marks its place
pub one_marked : (words more : List ℕ) (place word : ℕ) → place < length (marks_of words) → length more ≡ length words
    → ((j : ℕ) → j < length words → get_or more j 0 ≡ cond (place / 64 == j) word (get_or words j 0))
    → bit_at word (place % 64) ≡ 1 → ((i : ℕ) → i ≢ place % 64 → bit_at word i ≡ bit_at (get_or words (place / 64) 0) i)
    → (k : ℕ) → k < length (marks_of words) → get_or (marks_of more) k 0 ≡ cond (place == k) 1 (get_or (marks_of words) k 0)
one_marked words more place word inside same each set others k low =
    let within : k < 64 * length words = omega (arith, marks_long words) in
    mark_is more k (omega (arith, same))
    ∙ (ap (λ w. bit_at w (k % 64)) (each (k / 64) (omega arith))
    ∙ (by_word (place / 64 == k / 64) refl
    ∙ ap (λ (m : ℕ). cond (place == k) 1 m) (sym (mark_is words k within))))
  where
    here : (is : Bool) → (place == k) ≡ is → place / 64 ≡ k / 64 → bit_at word (k % 64) ≡ cond is 1 (mark_at words k)
    here true is number = ap (λ i. bit_at word i) (ap (λ (n : ℕ). n % 64) (sym (eqb-true place k is))) ∙ set
    here false is number =
        others (k % 64) (λ same_bit. absurd (let same_place : place ≡ k = omega (arith, same_bit, number) in let is_true : (place == k)
        ≡ true = eq-eqb place k same_place in cc))
        ∙ ap (λ j. bit_at (get_or words j 0) (k % 64)) number

    apart : (is : Bool) → (place == k) ≡ is → (place / 64 == k / 64) ≡ false → mark_at words k ≡ cond is 1 (mark_at words k)
    apart false is other = refl
    apart true is other =
        absurd (let same_word : (place / 64 == k / 64) ≡ true = eq-eqb (place / 64) (k / 64) (ap (λ (n : ℕ). n / 64) (eqb-true place k is)) in cc)

    by_word : (is : Bool) → (place / 64 == k / 64) ≡ is
        → bit_at (cond is word (get_or words (k / 64) 0)) (k % 64) ≡ cond (place == k) 1 (mark_at words k)
    by_word true is = here (place == k) refl (eqb-true (place / 64) (k / 64) is)
    by_word false is = apart (place == k) refl is

-- a word, as an index gives it
pub word_is : (words : List ℕ) (number word : ℕ) → number < length words → word ≡ get_or words number word → word ≡ get_or words number 0
word_is words number word there is = is ∙ get_or_default words number word 0 there

-- Where the first mark is, by the bits of a word.

unmarked : (words : List ℕ) (k : ℕ) → k < 64 * length words → mark_at words k ≡ 0 → (slice_index (marks_of words) k == 1) ≡ false
unmarked words k low is = ap (λ b. b == 1) (mark_is words k low ∙ is)

-- none in the rest of a word
pub none_more : (words : List ℕ) (from number low : ℕ) → number < length words → low < 64 → NoStart (marks_of words) from (64 * number + low)
    → ((i : ℕ) → low ≤ i → i < 64 → bit_at (get_or words number 0) i ≡ 0) → NoStart (marks_of words) from (64 * (number + 1))
none_more words from number low there few before none = λ k past below.
    elim (cases_lt k (64 * number + low)) [
      | inl earlier ↦ before k past earlier
      | inr later ↦
          let same : k / 64 ≡ number = omega arith in
          unmarked words k (omega arith) (ap (λ j. bit_at (get_or words j 0) (k % 64)) same ∙ none (k % 64) (omega (arith, same)) (omega arith))
    ]

pub next_here : (words : List ℕ) (from number low bit : ℕ) → number < length words → from ≤ 64 * number + low → low ≤ bit → bit < 64
    → NoStart (marks_of words) from (64 * number + low) → bit_at (get_or words number 0) bit ≡ 1
    → ((i : ℕ) → low ≤ i → i < bit → bit_at (get_or words number 0) i ≡ 0) → IsNext (marks_of words) from (64 * number + bit)
next_here words from number low bit there behind past few before set none =
    let same : (64 * number + bit) / 64 ≡ number = omega arith in
    let rest : (64 * number + bit) % 64 ≡ bit = omega arith in
    record {
      low = omega arith;
      high = omega (arith, marks_long words);
      marked =
          ap (λ b. b == 1)
          (mark_is words (64 * number + bit) (omega arith)
          ∙ (ap (λ j. bit_at (get_or words j 0) ((64 * number + bit) % 64)) same ∙ (ap (λ i. bit_at (get_or words number 0) i) rest ∙ set)));
      none = λ k low_k high_k.
          elim (cases_lt k (64 * number + low)) [
            | inl earlier ↦ before k low_k earlier
            | inr later ↦
                let same_k : k / 64 ≡ number = omega arith in
                unmarked words k (omega arith) (ap (λ j. bit_at (get_or words j 0) (k % 64)) same_k
                ∙ none (k % 64) (omega (arith, same_k)) (omega (arith, same_k)))
          ];
    }

-- The bits of a word from one on.

pub low_bits : (word bit i : ℕ) → bit < 64 → i < bit → bit_at (bit_and word ((2 ^ 64 - 1) * 2 ^ bit % 2 ^ 64)) i ≡ 0
low_bits word bit i few low =
    ap (λ mask. bit_at (bit_and word mask) i) (ones_shl 64 bit (omega arith))
    ∙ (bit_at_and word (2 ^ 64 - 2 ^ bit) i ∙ (ap (λ (m : ℕ). min (bit_at word i) m) (bit_at_mask_below bit 64 i low) ∙ omega arith))

pub high_bits : (word bit i : ℕ) → bit < 64 → bit ≤ i → i < 64 → bit_at (bit_and word ((2 ^ 64 - 1) * 2 ^ bit % 2 ^ 64)) i ≡ bit_at word i
high_bits word bit i few high below =
    ap (λ mask. bit_at (bit_and word mask) i) (ones_shl 64 bit (omega arith))
    ∙ (bit_at_and word (2 ^ 64 - 2 ^ bit) i
    ∙ (ap (λ (m : ℕ). min (bit_at word i) m) (bit_at_mask_inside bit 64 i high below) ∙ (let one : bit_at word i < 2 = bit_at-lt word i in omega (arith, one))))

-- a word that is 0 has no bit
pub no_bit : (word i : ℕ) → word ≡ 0 → bit_at word i ≡ 0
no_bit word i is = ap (λ w. bit_at w i) is ∙ bit_at-zero i

-- The first mark from a place on, as that of its word from its bit on or of the words behind.

pub none_behind : (words : List ℕ) (from : ℕ) → length words ≤ from / 64 → NoStart (marks_of words) from (length (marks_of words))
none_behind words from past = λ k low high. absurd (omega (arith, marks_long words))

rest_of : (words : List ℕ) (from rest : ℕ) → ((i : ℕ) → from % 64 ≤ i → i < 64 → bit_at rest i ≡ bit_at (get_or words (from / 64) 0) i) → (i : ℕ)
    → from % 64 ≤ i → i < 64
    → bit_at (get_or words (from / 64) 0) i ≡ bit_at rest i
rest_of words from rest high i past below = sym (high i past below)

pub next_of_word : (words : List ℕ) (from rest bit : ℕ) → from / 64 < length words → ((i : ℕ) → i < from % 64 → bit_at rest i ≡ 0)
    → ((i : ℕ) → from % 64 ≤ i → i < 64 → bit_at rest i ≡ bit_at (get_or words (from / 64) 0) i) → IsFirstBit rest bit
    → IsNext (marks_of words) from (64 * (from / 64) + bit)
next_of_word words from rest bit there low high first =
    let past : from % 64 ≤ bit =
    elim (cases_lt bit (from % 64)) [
      | inl before ↦ absurd (let unset : bit_at rest bit ≡ 0 = low bit before in omega (arith, unset, first.set))
      | inr behind ↦ behind
    ] in
    next_here words from (from / 64) (from % 64) bit there (omega arith) past first.low (λ k above below. absurd (omega arith))
    (rest_of words from rest high bit past first.low ∙ first.set)
    (λ i above below. rest_of words from rest high i above (omega (arith, first.low)) ∙ first.none i below)

pub none_of_word : (words : List ℕ) (from rest : ℕ) → from / 64 < length words
    → ((i : ℕ) → from % 64 ≤ i → i < 64 → bit_at rest i ≡ bit_at (get_or words (from / 64) 0) i) → rest ≡ 0
    → NoStart (marks_of words) from (64 * (from / 64 + 1))
none_of_word words from rest there high zero =
    none_more words from (from / 64) (from % 64) there (omega arith) (λ k above below. absurd (omega arith))
    (λ i above below. rest_of words from rest high i above below ∙ no_bit rest i zero)

joined : (words : List ℕ) (from middle to : ℕ) → NoStart (marks_of words) from middle → NoStart (marks_of words) middle to → NoStart (marks_of words) from to
joined words from middle to first second = λ k low high.
    elim (cases_lt k middle) [
      | inl before ↦ first k low before
      | inr behind ↦ second k behind high
    ]

pub next_behind : (words : List ℕ) (from : ℕ) (found : Option ℕ) → from ≤ 64 * (from / 64 + 1) → NoStart (marks_of words) from (64 * (from / 64 + 1))
    → MatchOption found (NoStart (marks_of words) (64 * (from / 64 + 1)) (64 * length words)) (IsNext (marks_of words) (64 * (from / 64 + 1)))
    → MatchOption found (NoStart (marks_of words) from (length (marks_of words))) (IsNext (marks_of words) from)
next_behind words from None room here behind =
    joined words from (64 * (from / 64 + 1)) (length (marks_of words)) here (λ k low high. behind k low (omega (arith, marks_long words)))
next_behind words from (Some at) room here behind = record {
  low = omega (arith, behind.low);
  high = behind.high;
  marked = behind.marked;
  none = joined words from (64 * (from / 64 + 1)) at here behind.none;
}
