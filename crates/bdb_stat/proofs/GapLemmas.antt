-- The places outside all items, where each item ends at or below the one before, or is one before once more.
use Rattle.std.proofs.Common.{◌≡◌, ◌∙◌, inl, inr, ℕ, ◌+◌, ◌-◌, ◌<◌, ◌≤◌, true, false, sym, ap, arith}
use Rattle.std.proofs.lemmas.Bool.{cases_lt}
use Rattle.bdb_stat.specs.Unused.{lies_in, places_outside}
use Rattle.bdb_stat.proofs.PlaceLemmas.{all_outside, few_outside, is_inside, is_outside, none_outside, one_more_outside, outside_parts}

-- The first n items begin at the lowest place or above it, and so many places from there on lie in none of them.
pub record IsFalling (low size n : ℕ) (begin end : ℕ → ℕ) (lowest outside : ℕ) : Type 0 where
  pub behind : low ≤ lowest
  pub within : lowest ≤ size
  pub above : (i : ℕ) → i < n → lowest ≤ begin i
  pub counted : outside ≡ places_outside lowest size n begin end

-- an item more that ends at or below the lowest place
pub falling_next : (low size n : ℕ) (begin end : ℕ → ℕ) (lowest outside : ℕ) → IsFalling low size n begin end lowest outside → low ≤ begin n
    → begin n < end n → end n ≤ lowest → IsFalling low size (n + 1) begin end (begin n) (outside + (lowest - end n))
falling_next low size n begin end lowest outside falling behind some below = record {
  behind = behind;
  within = omega (arith, falling.within);
  above = λ i lt.
      elim (cases_lt i n) [
        | inl before ↦ let higher : lowest ≤ begin i = falling.above i before in omega arith
        | inr last ↦ let same : begin i ≡ begin n = ap begin (omega arith) in omega arith
      ];
  counted =
      let in_it : places_outside (begin n) (end n) (n + 1) begin end ≡ 0 = none_outside (begin n) (end n) (n + 1) begin end inside in
      let above_it : places_outside (end n) lowest (n + 1) begin end ≡ lowest - end n = all_outside (end n) lowest (n + 1) begin end between in
      let before_it : places_outside lowest size (n + 1) begin end ≡ places_outside lowest size n begin end =
      one_more_outside lowest size n begin end (λ k from to low high. absurd (omega arith)) in
      omega (
        arith,
        in_it,
        above_it,
        before_it,
        falling.counted,
        outside_parts (begin n) (end n) size (n + 1) begin end (omega arith) (omega (arith, falling.within)),
        outside_parts (end n) lowest size (n + 1) begin end below falling.within,
      );
}
  where
    inside : (k : ℕ) → begin n ≤ k → k < end n → lies_in (n + 1) begin end k ≡ true
    inside k from to = is_inside (n + 1) begin end k n (omega arith) from to

    between : (k : ℕ) → end n ≤ k → k < lowest → lies_in (n + 1) begin end k ≡ false
    between k from to =
        is_outside (n + 1) begin end k (λ i lt at before.
        elim (cases_lt i n) [
          | inl earlier ↦ let higher : lowest ≤ begin i = falling.above i earlier in omega arith
          | inr last ↦ let same : end i ≡ end n = ap end (omega arith) in omega arith
        ])

-- an item before once more
pub falling_again : (low size n : ℕ) (begin end : ℕ → ℕ) (lowest outside j : ℕ) → IsFalling low size n begin end lowest outside → j < n
    → begin n ≡ begin j → end n ≡ end j → IsFalling low size (n + 1) begin end lowest outside
falling_again low size n begin end lowest outside j falling there begins ends = record {
  behind = falling.behind;
  within = falling.within;
  above = λ i lt.
      elim (cases_lt i n) [
        | inl before ↦ falling.above i before
        | inr last ↦
            let same : begin i ≡ begin n = ap begin (omega arith) in
            let higher : lowest ≤ begin j = falling.above j there in
            omega arith
      ];
  counted = falling.counted ∙ sym (one_more_outside lowest size n begin end
      (λ k from to low high. is_inside n begin end k j there (omega arith) (omega arith)));
}

-- all of them: what lies below the lowest place is outside too
pub falling_end : (low size n : ℕ) (begin end : ℕ → ℕ) (lowest outside : ℕ) → IsFalling low size n begin end lowest outside
    → outside + (lowest - low) ≡ places_outside low size n begin end
falling_end low size n begin end lowest outside falling =
    let free : places_outside low lowest n begin end ≡ lowest - low = all_outside low lowest n begin end below in
    omega (arith, free, falling.counted, outside_parts low lowest size n begin end falling.behind falling.within)
  where
    below : (k : ℕ) → low ≤ k → k < lowest → lies_in n begin end k ≡ false
    below k from to = is_outside n begin end k (λ i lt at before. let higher : lowest ≤ begin i = falling.above i lt in absurd (omega arith))

-- no more than the places above the lowest
pub few_above : (low size n : ℕ) (begin end : ℕ → ℕ) (lowest outside : ℕ) → IsFalling low size n begin end lowest outside → outside + lowest ≤ size
few_above low size n begin end lowest outside falling =
    let few : places_outside lowest size n begin end ≤ size - lowest = few_outside lowest size n begin end in
    omega (arith, falling.counted, falling.within)
