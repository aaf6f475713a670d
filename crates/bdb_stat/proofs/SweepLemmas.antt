-- The places outside all items, as the marked places are gone over in order.
use Rattle.std.proofs.Common.{◌≡◌, ◌∙◌, inl, inr, ℕ, ◌+◌, ◌-◌, ◌<◌, ◌≤◌, Bool, true, false, List, [], ◌∷◌, length, refl, sym, ap, arith}
use Rattle.std.specs.Prelude.{◌==◌, ◌||◌, ◌++◌, cond, get_or, max, slice_index}
use Rattle.std.specs.List.{Contains, list_any, range_with_len}
use Rattle.std.proofs.lemmas.Bool.{cases_lt, eq-eqb, eqb-true}
use Rattle.bdb_law_turned.proofs.of_format.ListLemmas.{any_member, passes_here, range_zero_more}
use Rattle.bdb_law_turned.proofs.of_format.MemberLemmas.{in_range, of_range}
use Rattle.bdb_stat.specs.Unused.{lies_in, places_outside}
use Rattle.bdb_stat.proofs.PlaceLemmas.{all_outside, few_outside, is_inside, is_outside, none_outside, outside_parts}
use Rattle.bdb_law_turned.specs.of_form.Ends.{IsPlaced}
use Rattle.bdb_stat.specs.Starts.{AreStarts, IsNext, NoStart}

-- an item that begins there is marked, and what is marked begins an item

started : (starts : List ℕ) (n : ℕ) (begin : ℕ → ℕ) (i : ℕ) → AreStarts starts n begin → i < n → begin i < length starts → (slice_index starts (begin i) == 1)
    ≡ true
started starts n begin i are there inside =
    are (begin i) inside
    ∙ passes_here (λ j. begin j == begin i) (range_with_len 0 n) i (in_range 0 n i (omega arith) (omega arith)) (eq-eqb (begin i) (begin i) refl)

record Begins (n : ℕ) (begin : ℕ → ℕ) (k : ℕ) : Type 0 where
  item : ℕ
  there : item < n
  is : begin item ≡ k

begun : (starts : List ℕ) (n : ℕ) (begin : ℕ → ℕ) (k : ℕ) → AreStarts starts n begin → k < length starts → (slice_index starts k == 1) ≡ true → Begins n begin k
begun starts n begin k are inside marked =
    let found : (i : ℕ) × Contains (range_with_len 0 n) i × ((begin i == k) ≡ true) =
    any_member (λ i. begin i == k) (range_with_len 0 n) (sym (are k inside) ∙ marked) in
    let range : (0 ≤ found.0) × (found.0 < 0 + n) = of_range 0 n found.0 found.1 in
    record { item = found.0; there = omega arith; is = eqb-true (begin found.0) k found.2 }

-- no place is marked at first
pub none_marked : (starts : List ℕ) (begin : ℕ → ℕ) → ((k : ℕ) → k < length starts → get_or starts k 0 ≡ 0) → AreStarts starts 0 begin
none_marked starts begin clear = λ k low. ap (λ b. b == 1) (clear k low)

-- and then the place of one item more
pub marked_next : (starts more : List ℕ) (n at : ℕ) (begin : ℕ → ℕ) → AreStarts starts n begin → length more ≡ length starts
    → ((k : ℕ) → k < length starts → get_or more k 0 ≡ cond (at == k) 1 (get_or starts k 0)) → at ≡ begin n → AreStarts more (n + 1) begin
marked_next starts more n at begin are same each is = λ k low.
    let inside : k < length starts = omega (arith, same) in
    ap (λ b. b == 1) (each k inside ∙ ap (λ (a : ℕ). cond (a == k) 1 (get_or starts k 0)) is)
    ∙ (marked_by (begin n == k) (get_or starts k 0)
    ∙ (ap (λ b. b || begin n == k) (are k inside)
    ∙ sym (any_more (λ i. begin i == k) n)))
  where
    or-true : (a : Bool) → (a || true) ≡ true
    or-true true = refl
    or-true false = refl

    or-false : (a : Bool) → (a || false) ≡ a
    or-false true = refl
    or-false false = refl

    or_assoc : (a b c : Bool) → (a || (b || c)) ≡ ((a || b) || c)
    or_assoc true b c = refl
    or_assoc false b c = refl

    marked_by : (here : Bool) (mark : ℕ) → (cond here 1 mark == 1) ≡ (mark == 1 || here)
    marked_by true mark = sym (or-true (mark == 1))
    marked_by false mark = sym (or-false (mark == 1))

    any_append : (test : ℕ → Bool) (xs ys : List ℕ) → list_any test (xs ++ ys) ≡ (list_any test xs || list_any test ys)
    any_append test [] ys = refl
    any_append test (x ∷ xs) ys = ap (λ b. test x || b) (any_append test xs ys) ∙ or_assoc (test x) (list_any test xs) (list_any test ys)

    any_more : (test : ℕ → Bool) (n : ℕ) → list_any test (range_with_len 0 (n + 1)) ≡ (list_any test (range_with_len 0 n) || test n)
    any_more test n =
        ap (list_any test) (range_zero_more n)
        ∙ (any_append test (range_with_len 0 n) (n ∷ []) ∙ ap (λ b. list_any test (range_with_len 0 n) || b) (or-false (test n)))

-- The items that begin before a place are counted: they end by the place that is reached, up to which all from there on is
-- inside, and so many places below it are outside.
pub record IsSwept (low size n : ℕ) (begin end : ℕ → ℕ) (from reached outside : ℕ) : Type 0 where
  pub above : low ≤ from
  pub within : from ≤ size
  pub reached_low : low ≤ reached
  pub reached_high : reached ≤ size
  pub passed : (i : ℕ) → i < n → begin i < from → end (begin i) ≤ reached
  pub inside : (k : ℕ) → from ≤ k → k < reached → lies_in n begin (λ i. end (begin i)) k ≡ true
  pub counted : outside ≡ places_outside low reached n begin (λ i. end (begin i))

abbrev pub AreItems : ℕ → ℕ → ℕ → ℕ → (ℕ → ℕ) → (ℕ → ℕ) → Type 0
AreItems low size least n begin end = (i : ℕ) → i < n → IsPlaced low size least (begin i) (end (begin i))

pub at_start : (low size least n : ℕ) (begin end : ℕ → ℕ) → low ≤ size → AreItems low size least n begin end → IsSwept low size n begin end low low 0
at_start low size least n begin end room items = record {
  above = omega arith;
  within = room;
  reached_low = omega arith;
  reached_high = room;
  passed = λ i lt before. absurd (let placed : low ≤ begin i = (items i lt).behind in omega arith);
  inside = λ k from to. absurd (omega arith);
  counted = sym (none_outside low low n begin (λ i. end (begin i)) (λ k from to. absurd (omega arith)));
}

-- The places from the one that is reached up to the next item.

gap : (starts : List ℕ) (low least n : ℕ) (begin end : ℕ → ℕ) (from reached outside to : ℕ) → AreItems low (length starts) least n begin end
    → AreStarts starts n begin
    → IsSwept low (length starts) n begin end from reached outside → to ≤ length starts → NoStart starts from to → (k : ℕ) → reached ≤ k → k < to
    → lies_in n begin (λ i. end (begin i)) k ≡ false
gap starts low least n begin end from reached outside to items are swept within none k past below =
    is_outside n begin (λ i. end (begin i)) k (λ i lt at before.
    elim (cases_lt (begin i) from) [
      | inl earlier ↦ let ended : end (begin i) ≤ reached = swept.passed i lt earlier in omega arith
      | inr later ↦
          let marked : (slice_index starts (begin i) == 1) ≡ true = started starts n begin i are lt (omega arith) in
          let unmarked : (slice_index starts (begin i) == 1) ≡ false = none (begin i) later (omega arith) in
          absurd cc
    ])

pub at_next : (starts : List ℕ) (low least n : ℕ) (begin end : ℕ → ℕ) (from reached outside at : ℕ) → AreItems low (length starts) least n begin end
    → AreStarts starts n begin
    → IsSwept low (length starts) n begin end from reached outside → IsNext starts from at
    → IsSwept low (length starts) n begin end (at + 1) (max reached (end at)) (outside + (at - reached))
at_next starts low least n begin end from reached outside at items are swept next =
    let item : Begins n begin at = begun starts n begin at are next.high next.marked in
    let there : item.item < n = item.there in
    let placed : IsPlaced low (length starts) least (begin item.item) (end (begin item.item)) = items item.item there in
    let begins : begin item.item ≡ at = item.is in
    let ends : end (begin item.item) ≡ end at = ap end begins in
    let some : at < end at = omega (arith, placed.some) in
    let ends_within : end at ≤ length starts = omega (arith, placed.within) in
    let low_at : low ≤ at = omega (arith, placed.behind) in
    let further : ℕ = max reached (end at) in
    let reached_in : reached ≤ further = omega arith in
    let is_in : (k : ℕ) → at ≤ k → k < end at → lies_in n begin (λ i. end (begin i)) k ≡ true =
    λ k past before. is_inside n begin (λ i. end (begin i)) k item.item there (omega arith) (omega arith) in
    let before : (k : ℕ) → reached ≤ k → k < at → lies_in n begin (λ i. end (begin i)) k ≡ false =
    gap starts low least n begin end from reached outside at items are swept (omega (arith, next.high)) next.none in
    let from_low : from ≤ at = next.low in
    record {
      above = omega arith;
      within = omega (arith, next.high);
      reached_low = omega (arith, swept.reached_low);
      reached_high = omega (arith, swept.reached_high);
      passed = λ i lt passes.
          elim (cases_lt (begin i) from) [
            | inl earlier ↦ let ended : end (begin i) ≤ reached = swept.passed i lt earlier in omega arith
            | inr later ↦ let here : begin i ≡ at = starts_at i lt later (omega arith) in let same : end (begin i) ≡ end at = ap end here in omega arith
          ];
      inside = λ k past below.
          elim (cases_lt k reached) [
            | inl old ↦ swept.inside k (omega arith) old
            | inr new ↦ is_in k (omega arith) (omega arith)
          ];
      counted =
          elim (cases_lt reached at) [
            | inl apart ↦
                let further_is : further ≡ end at = omega arith in
                let first : places_outside low at n begin (λ i. end (begin i)) ≡ outside + (at - reached) =
                outside_parts low reached at n begin (λ i. end (begin i)) swept.reached_low (omega arith)
                ∙ ap (λ (m : ℕ). m + places_outside reached at n begin (λ i. end (begin i))) (sym swept.counted)
                ∙ ap (λ (m : ℕ). outside + m) (all_outside reached at n begin (λ i. end (begin i)) before) in
                sym (ap (λ (m : ℕ). places_outside low m n begin (λ i. end (begin i))) further_is
                ∙ (outside_parts low at (end at) n begin (λ i. end (begin i)) low_at (omega arith)
                ∙ (ap (λ (m : ℕ). m + places_outside at (end at) n begin (λ i. end (begin i))) first
                ∙ (ap (λ (m : ℕ). outside + (at - reached) + m) (none_outside at (end at) n begin (λ i. end (begin i)) is_in) ∙ omega arith))))
            | inr joined ↦
                sym (outside_parts low reached further n begin (λ i. end (begin i)) swept.reached_low reached_in
                ∙ (ap (λ (m : ℕ). m + places_outside reached further n begin (λ i. end (begin i))) (sym swept.counted)
                ∙ (ap (λ (m : ℕ). outside + m)
                (none_outside reached further n begin (λ i. end (begin i)) (λ k past below. is_in k (omega arith) (omega arith))) ∙ omega arith)))
          ];
    }
  where
    starts_at : (i : ℕ) → i < n → from ≤ begin i → begin i ≤ at → begin i ≡ at
    starts_at i lt low high =
        elim (cases_lt (begin i) at) [
          | inl before ↦
              let marked : (slice_index starts (begin i) == 1) ≡ true = started starts n begin i are lt (omega (arith, next.high)) in
              let unmarked : (slice_index starts (begin i) == 1) ≡ false = next.none (begin i) low before in
              absurd cc
          | inr same ↦ omega arith
        ]

pub at_end : (starts : List ℕ) (low least n : ℕ) (begin end : ℕ → ℕ) (from reached outside : ℕ) → AreItems low (length starts) least n begin end
    → AreStarts starts n begin
    → IsSwept low (length starts) n begin end from reached outside → NoStart starts from (length starts)
    → outside + (length starts - reached) ≡ places_outside low (length starts) n begin (λ i. end (begin i))
at_end starts low least n begin end from reached outside items are swept none =
    sym (outside_parts low reached (length starts) n begin (λ i. end (begin i)) swept.reached_low swept.reached_high
    ∙ (ap (λ (m : ℕ). m + places_outside reached (length starts) n begin (λ i. end (begin i))) (sym swept.counted)
    ∙ ap (λ (m : ℕ). outside + m)
    (all_outside reached (length starts) n begin (λ i. end (begin i))
    (gap starts low least n begin end from reached outside (length starts) items are swept (omega arith) none))))

-- no more than the places up to the one that is reached
pub few_so_far : (low size n : ℕ) (begin end : ℕ → ℕ) (from reached outside : ℕ) → IsSwept low size n begin end from reached outside → outside ≤ reached
few_so_far low size n begin end from reached outside swept =
    let few : places_outside low reached n begin (λ i. end (begin i)) ≤ reached - low = few_outside low reached n begin (λ i. end (begin i)) in
    omega (arith, swept.counted)

-- a marked place has room for what tells where its item ends
pub room_at : (starts : List ℕ) (low least n : ℕ) (begin end : ℕ → ℕ) (at : ℕ) → AreItems low (length starts) least n begin end → AreStarts starts n begin
    → at < length starts → (slice_index starts at == 1) ≡ true → at + least ≤ length starts
room_at starts low least n begin end at items are inside marked =
    let item : Begins n begin at = begun starts n begin at are inside marked in
    let placed : IsPlaced low (length starts) least (begin item.item) (end (begin item.item)) = items item.item item.there in
    omega (arith, placed.room, item.is)
