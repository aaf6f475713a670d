-- Places that lie in none of some ranges.
use Rattle.std.proofs.Common.{◌≡◌, ◌∙◌, inl, inr, ℕ, suc, ◌+◌, ◌-◌, ◌<◌, ◌≤◌, Bool, true, false, List, [], ◌∷◌, length, length-append, refl, sym, ap, subst}
use Rattle.std.proofs.Common.{arith, cond, ◌&&◌, nat_le, nat_lt, not}
use Rattle.std.specs.List.{Contains, filter, list_any, range_with_len}
use Rattle.std.proofs.lemmas.Bool.{cases_Bool, cases_lt}
use Rattle.std.proofs.lemmas.Bool.Decides.{nat_tests}
use Rattle.std.proofs.lemmas.List.Elements.{filter-append}
use Rattle.std.proofs.lemmas.List.FromFn.{length-range_with_len}
use Rattle.bdb_law_turned.proofs.of_format.ListLemmas.{any_member, passes_here, range_parts}
use Rattle.bdb_law_turned.proofs.of_format.MemberLemmas.{few_pass, first_member, in_range, later_member, none_pass, of_range}
use Rattle.bdb_stat.specs.Unused.{lies_in, places_outside}

-- a place lies in a range that holds it
pub is_inside : (n : ℕ) (begin end : ℕ → ℕ) (k i : ℕ) → i < n → begin i ≤ k → k < end i → lies_in n begin end k ≡ true
is_inside n begin end k i there low high =
    passes_here (λ j. nat_le (begin j) k && nat_lt k (end j)) (range_with_len 0 n) i (in_range 0 n i (omega arith) (omega arith)) (grind (arith, nat_tests))

low_of : (b k : ℕ) (other : Bool) → (nat_le b k && other) ≡ true → b ≤ k
low_of b k other both = grind (arith, nat_tests)

high_of : (other : Bool) (k e : ℕ) → (other && nat_lt k e) ≡ true → k < e
high_of other k e both = grind (arith, nat_tests)

-- and in none where none holds it
pub is_outside : (n : ℕ) (begin end : ℕ → ℕ) (k : ℕ) → ((i : ℕ) → i < n → begin i ≤ k → k < end i → ⊥) → lies_in n begin end k ≡ false
is_outside n begin end k none =
    none_pass (λ j. nat_le (begin j) k && nat_lt k (end j)) (range_with_len 0 n)
    (λ i at. let range : (0 ≤ i) × (i < 0 + n) = of_range 0 n i at in holds_not (begin i) (end i) k (none i (omega arith)))
  where
    holds_not : (b e k : ℕ) → (b ≤ k → k < e → ⊥) → (nat_le b k && nat_lt k e) ≡ false
    holds_not b e k none = grind (arith, nat_tests)

none_kept : (test : ℕ → Bool) (xs : List ℕ) → ((x : ℕ) → Contains xs x → test x ≡ false) → length (filter test xs) ≡ 0
none_kept test [] none = refl
none_kept test (x ∷ xs) none = rw (none x (first_member x xs)) (none_kept test xs (λ y at. none y (later_member x xs y at)))

all_kept : (test : ℕ → Bool) (xs : List ℕ) → ((x : ℕ) → Contains xs x → test x ≡ true) → length (filter test xs) ≡ length xs
all_kept test [] all = refl
all_kept test (x ∷ xs) all = rw (all x (first_member x xs)) (ap (λ n. suc n) (all_kept test xs (λ y at. all y (later_member x xs y at))))

-- places that all lie in some range
pub none_outside : (from to n : ℕ) (begin end : ℕ → ℕ) → ((k : ℕ) → from ≤ k → k < to → lies_in n begin end k ≡ true) → places_outside from to n begin end ≡ 0
none_outside from to n begin end inside =
    none_kept (λ k. not (lies_in n begin end k)) (range_with_len from (to - from))
    (λ k at. let range : (from ≤ k) × (k < from + (to - from)) = of_range from (to - from) k at in ap not (inside k range.0 (omega arith)))

-- places none of which does
pub all_outside : (from to n : ℕ) (begin end : ℕ → ℕ) → ((k : ℕ) → from ≤ k → k < to → lies_in n begin end k ≡ false)
    → places_outside from to n begin end ≡ to - from
all_outside from to n begin end outside =
    all_kept (λ k. not (lies_in n begin end k)) (range_with_len from (to - from))
    (λ k at. let range : (from ≤ k) × (k < from + (to - from)) = of_range from (to - from) k at in ap not (outside k range.0 (omega arith)))
    ∙ length-range_with_len from (to - from)

-- up to a place, and from there on
pub outside_parts : (from mid to n : ℕ) (begin end : ℕ → ℕ) → from ≤ mid → mid ≤ to
    → places_outside from to n begin end ≡ places_outside from mid n begin end + places_outside mid to n begin end
outside_parts from mid to n begin end low high =
    let test : ℕ → Bool = λ k. not (lies_in n begin end k) in
    let parts : to - from ≡ (mid - from) + (to - mid) = omega arith in
    let there : from + (mid - from) ≡ mid = omega arith in
    ap (λ m. length (filter test (range_with_len from m))) parts
    ∙ (ap (λ xs. length (filter test xs)) (range_parts from (mid - from) (to - mid))
    ∙ (ap (λ (xs : List ℕ). length xs) (filter-append test (range_with_len from (mid - from)) (range_with_len (from + (mid - from)) (to - mid)))
    ∙ (length-append (filter test (range_with_len from (mid - from))) (filter test (range_with_len (from + (mid - from)) (to - mid)))
    ∙ ap (λ m. length (filter test (range_with_len from (mid - from))) + length (filter test (range_with_len m (to - mid)))) there)))

-- they are as many as the places, or fewer
pub few_outside : (from to n : ℕ) (begin end : ℕ → ℕ) → places_outside from to n begin end ≤ to - from
few_outside from to n begin end =
    omega (arith, few_pass (λ k. not (lies_in n begin end k)) (range_with_len from (to - from)), length-range_with_len from (to - from))

kept_same : (f g : ℕ → Bool) (xs : List ℕ) → ((x : ℕ) → Contains xs x → f x ≡ g x) → length (filter f xs) ≡ length (filter g xs)
kept_same f g [] same = refl
kept_same f g (x ∷ xs) same =
    let rest : length (filter f xs) ≡ length (filter g xs) = kept_same f g xs (λ y at. same y (later_member x xs y at)) in
    elim (g x) as (λ b. f x ≡ b → length (cond (f x) (x ∷ filter f xs) (filter f xs)) ≡ length (cond b (x ∷ filter g xs) (filter g xs))) [
      | true ↦ λ is. rw is (ap (λ n. suc n) rest)
      | false ↦ λ is. rw is rest
    ] (same x (first_member x xs))

-- the same ranges have the same places outside
pub same_outside : (from to n : ℕ) (begin end begin' end' : ℕ → ℕ) → ((i : ℕ) → i < n → begin i ≡ begin' i) → ((i : ℕ) → i < n → end i ≡ end' i)
    → places_outside from to n begin end ≡ places_outside from to n begin' end'
same_outside from to n begin end begin' end' begins ends =
    kept_same (λ k. not (lies_in n begin end k)) (λ k. not (lies_in n begin' end' k)) (range_with_len from (to - from))
    (λ k _. ap not (any_same (λ i. nat_le (begin i) k && nat_lt k (end i)) (λ i. nat_le (begin' i) k && nat_lt k (end' i)) (range_with_len 0 n)
    (λ i at. let range : (0 ≤ i) × (i < 0 + n) = of_range 0 n i at in
    let low : i < n = omega arith in
    both_same (begin i) (begin' i) (end i) (end' i) k (begins i low) (ends i low))))
  where
    both_same : (b b' e e' k : ℕ) → b ≡ b' → e ≡ e' → (nat_le b k && nat_lt k e) ≡ (nat_le b' k && nat_lt k e')
    both_same b b' e e' k bs es = rw (bs, es) refl

    any_same : (f g : ℕ → Bool) (xs : List ℕ) → ((x : ℕ) → Contains xs x → f x ≡ g x) → list_any f xs ≡ list_any g xs
    any_same f g [] same = refl
    any_same f g (x ∷ xs) same = rw (same x (first_member x xs), any_same f g xs (λ y at. same y (later_member x xs y at))) refl

-- one range more whose places lie in those before
pub one_more_outside : (from to n : ℕ) (begin end : ℕ → ℕ) → ((k : ℕ) → from ≤ k → k < to → begin n ≤ k → k < end n → lies_in n begin end k ≡ true)
    → places_outside from to (n + 1) begin end ≡ places_outside from to n begin end
one_more_outside from to n begin end held =
    kept_same (λ k. not (lies_in (n + 1) begin end k)) (λ k. not (lies_in n begin end k)) (range_with_len from (to - from))
    (λ k at. let range : (from ≤ k) × (k < from + (to - from)) = of_range from (to - from) k at in
    ap not (one_more k (held k range.0 (omega arith))))
  where
    held_before : (k : ℕ) → (begin n ≤ k → k < end n → lies_in n begin end k ≡ true) → lies_in (n + 1) begin end k ≡ true → lies_in n begin end k ≡ true
    held_before k here inside =
        let found : (i : ℕ) × Contains (range_with_len 0 (n + 1)) i × ((nat_le (begin i) k && nat_lt k (end i)) ≡ true) =
        any_member (λ i. nat_le (begin i) k && nat_lt k (end i)) (range_with_len 0 (n + 1)) inside in
        let range : (0 ≤ found.0) × (found.0 < 0 + (n + 1)) = of_range 0 (n + 1) found.0 found.1 in
        let low : begin found.0 ≤ k = low_of (begin found.0) k (nat_lt k (end found.0)) found.2 in
        let high : k < end found.0 = high_of (nat_le (begin found.0) k) k (end found.0) found.2 in
        elim (cases_lt found.0 n) [
          | inl before ↦ is_inside n begin end k found.0 before low high
          | inr last ↦
              let same : found.0 ≡ n = omega arith in
              here (subst (λ i. begin i ≤ k) same low) (subst (λ i. k < end i) same high)
        ]

    one_more : (k : ℕ) → (begin n ≤ k → k < end n → lies_in n begin end k ≡ true) → lies_in (n + 1) begin end k ≡ lies_in n begin end k
    one_more k here =
        elim (cases_Bool (lies_in n begin end k)) [
          | inl inside ↦
              let found : (i : ℕ) × Contains (range_with_len 0 n) i × ((nat_le (begin i) k && nat_lt k (end i)) ≡ true) =
              any_member (λ i. nat_le (begin i) k && nat_lt k (end i)) (range_with_len 0 n) inside in
              let range : (0 ≤ found.0) × (found.0 < 0 + n) = of_range 0 n found.0 found.1 in
              is_inside (n + 1) begin end k found.0 (omega arith) (low_of (begin found.0) k (nat_lt k (end found.0)) found.2)
              (high_of (nat_le (begin found.0) k) k (end found.0) found.2) ∙ sym inside
          | inr outside ↦
              elim (cases_Bool (lies_in (n + 1) begin end k)) [
                | inl inside ↦ absurd (let before : lies_in n begin end k ≡ true = held_before k here inside in cc)
                | inr nowhere ↦ nowhere ∙ sym outside
              ]
        ]
