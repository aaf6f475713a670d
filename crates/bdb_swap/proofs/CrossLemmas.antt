-- Ranges that begin within others.
use Rattle.std.proofs.Common.{◌≡◌, ◌∙◌, ◌⊎◌, inl, inr, ℕ, zero, suc, ◌+◌, ◌<◌, ◌≤◌, Bool, true, false, cond, List, [], ◌∷◌, ◌++◌, length, take, get_or, refl}
use Rattle.std.proofs.Common.{sym, ap, subst, arith, max, not, nat_lt, ◌&&◌, ◌==◌, Option, Some, None, option_map, unwrap_or}
use Rattle.std.specs.Cmp.{both_ways}
use Rattle.std.specs.List.{Contains, find, fold, list_any, range_with_len}
use Rattle.std.proofs.lemmas.Bool.{eqb-true, eq-eqb}
use Rattle.std.proofs.lemmas.Bool.Decides.{nat_tests}
use Rattle.std.proofs.lemmas.List.{take_more}
use Rattle.bdb_io.proofs.of_format.ListLemmas.{any_member, passes_here}
use Rattle.bdb_io.proofs.of_format.MemberLemmas.{in_range, member_cases, no_member, none_pass, none_passes, of_range, first_member, later_member}
use Rattle.bdb_swap.specs.Crossing.{AreEnds, AreRanges, crosses, crosses_at, end_at, greatest_below, some_share}
use Rattle.bdb_law_turned.specs.Overlaps.{share_bytes}

-- The greatest end.

fold_more : (a : ℕ) (xs : List ℕ) (x : ℕ) → fold max a (xs ++ x ∷ []) ≡ max (fold max a xs) x
fold_more a [] x = refl
fold_more a (y ∷ xs) x = fold_more (max a y) xs x

pub greatest_more : (ends : List ℕ) (k : ℕ) → k < length ends → greatest_below ends (k + 1) ≡ max (greatest_below ends k) (get_or ends k 0)
greatest_more ends k lt = ap (fold max 0) (take_more ends k 0 lt) ∙ fold_more 0 (take k ends) (get_or ends k 0)

-- it is one of them, or none is above 0
greatest_is : (ends : List ℕ) (k : ℕ) → k ≤ length ends → (greatest_below ends k ≡ 0) ⊎ ((j : ℕ) × (j < k) × (get_or ends j 0 ≡ greatest_below ends k))
greatest_is ends zero low = inl refl
greatest_is ends (suc k) low =
    let next : suc k ≡ k + 1 = omega arith in
    let step : greatest_below ends (suc k) ≡ max (greatest_below ends k) (get_or ends k 0) = ap (greatest_below ends) next
    ∙ greatest_more ends k (omega arith) in
    elim (greatest_is ends k (omega arith)) [
      | inl none ↦ elim (le_cases (greatest_below ends k) (get_or ends k 0)) [
        | inl below ↦ inr (k, omega arith, omega arith)
        | inr above ↦ inl (omega arith)
      ]
      | inr some ↦
          let j : ℕ = some.0 in
          let before : j < k = some.1 in
          let is : get_or ends j 0 ≡ greatest_below ends k = some.2 in
          elim (le_cases (greatest_below ends k) (get_or ends k 0)) [
            | inl below ↦ inr (k, omega arith, omega arith)
            | inr above ↦ inr (j, omega arith, omega arith)
          ]
    ]
  where
    le_cases : (a b : ℕ) → (a ≤ b) ⊎ (b ≤ a)
    le_cases a b = grind arith

-- and not less than any
greatest_least : (ends : List ℕ) (k j : ℕ) → k ≤ length ends → j < k → get_or ends j 0 ≤ greatest_below ends k
greatest_least ends zero j low lt = absurd (omega arith)
greatest_least ends (suc k) j low lt =
    let next : suc k ≡ k + 1 = omega arith in
    let step : greatest_below ends (suc k) ≡ max (greatest_below ends k) (get_or ends k 0) = ap (greatest_below ends) next
    ∙ greatest_more ends k (omega arith) in
    elim (cases j k (omega arith)) [
      | inl before ↦ let rest : get_or ends j 0 ≤ greatest_below ends k = greatest_least ends k j (omega arith) before in omega arith
      | inr same ↦ let at : get_or ends j 0 ≡ get_or ends k 0 = ap (λ (i : ℕ). get_or ends i 0) same in omega arith
    ]
  where
    cases : (j k : ℕ) → j < suc k → (j < k) ⊎ (j ≡ k)
    cases j k lt = grind arith

-- The range that begins at a place.

pub found_in : (test : ℕ → Bool) (xs : List ℕ) (i : ℕ) → find test xs ≡ Some i → Contains xs i × (test i ≡ true)
found_in test [] i is = absurd cc
found_in test (x ∷ xs) i is =
    elim (test x) as (λ b. test x ≡ b → cond b (Some x) (find test xs) ≡ Some i → Contains (x ∷ xs) i × (test i ≡ true)) [
      | true ↦ λ here found. let same : x ≡ i = cc in (subst (Contains (x ∷ xs)) same (first_member x xs), ap test (sym same) ∙ here)
      | false ↦ λ here found. let rest = found_in test xs i found in (later_member x xs i rest.0, rest.1)
    ] refl is

some_found : (test : ℕ → Bool) (xs : List ℕ) (i : ℕ) → Contains xs i → test i ≡ true → (j : ℕ) × (find test xs ≡ Some j)
some_found test [] i at is = absurd (no_member [] i refl at)
some_found test (x ∷ xs) i at is =
    elim (test x) as (λ b. test x ≡ b → (j : ℕ) × (cond b (Some x) (find test xs) ≡ Some j)) [
      | true ↦ λ here. (x, refl)
      | false ↦ λ here. elim (member_cases x xs i at) [
        | inl same ↦ absurd (let yes : test x ≡ true = ap test same ∙ is in cc)
        | inr later ↦ some_found test xs i
            later is
      ]
    ] refl

-- an end above 0 is that of a range that begins there
begins_there : (n : ℕ) (begin end : ℕ → ℕ) (k : ℕ) → 0 < end_at n begin end k → (i : ℕ) × (i < n) × (begin i ≡ k) × (end i ≡ end_at n begin end k)
begins_there n begin end k some = by (find (λ i. begin i == k) (range_with_len 0 n)) refl some
  where
    by : (found : Option ℕ) → find (λ i. begin i == k) (range_with_len 0 n) ≡ found → 0 < unwrap_or (option_map end found) 0
        → (i : ℕ) × (i < n) × (begin i ≡ k) × (end i ≡ end_at n begin end k)
    by None is some = absurd (omega arith)
    by (Some i) is some =
        let at : Contains (range_with_len 0 n) i × ((begin i == k) ≡ true) = found_in (λ j. begin j == k) (range_with_len 0 n) i is in
        let low : (0 ≤ i) × (i < 0 + n) = of_range 0 n i at.0 in
        (i, omega arith, eqb-true (begin i) k at.1, sym (ap (λ f. unwrap_or (option_map end f) 0) is))

-- a range ends where its place says
ends_there : (n size : ℕ) (begin end : ℕ → ℕ) (i : ℕ) → AreRanges n size begin end → i < n → end_at n begin end (begin i) ≡ end i
ends_there n size begin end i are lt =
    let found : (j : ℕ) × (find (λ m. begin m == begin i) (range_with_len 0 n) ≡ Some j) =
    some_found (λ m. begin m == begin i) (range_with_len 0 n) i (in_range 0 n i (omega arith) (omega arith)) (eq-eqb (begin i) (begin i) refl) in
    let j : ℕ = found.0 in
    let at : Contains (range_with_len 0 n) j × ((begin j == begin i) ≡ true) = found_in (λ m. begin m == begin i) (range_with_len 0 n) j found.1 in
    let low : (0 ≤ j) × (j < 0 + n) = of_range 0 n j at.0 in
    ap (λ f. unwrap_or (option_map end f) 0) found.1 ∙ are.one j i (omega arith) lt (eqb-true (begin j) (begin i) at.1)

shares : (b e c f : ℕ) → (b ≡ c → ⊥) → b < f → c < e → share_bytes b e c f ≡ true
shares b e c f other low high = grind (arith, nat_tests)

share_parts : (b e c f : ℕ) → share_bytes b e c f ≡ true → ((b < c) × (c < e)) ⊎ ((c < b) × (b < f))
share_parts b e c f is = grind (arith, nat_tests)

crosses_there : (ends : List ℕ) (k : ℕ) → 0 < get_or ends k 0 → k < greatest_below ends k → crosses_at ends k ≡ true
crosses_there ends k some lt = grind (arith, nat_tests)

crosses_parts : (ends : List ℕ) (k : ℕ) → crosses_at ends k ≡ true → (0 < get_or ends k 0) × (k < greatest_below ends k)
crosses_parts ends k is = parts (get_or ends k 0) (greatest_below ends k) is
  where
    parts : (end greatest : ℕ) → (not (end == 0) && nat_lt k greatest) ≡ true → (0 < end) × (k < greatest)
    parts end greatest is = (grind (arith, nat_tests), grind (arith, nat_tests))

-- Ranges that begin at different places share a byte exactly where one begins within one that begins before it.
pub ranges_cross : (n : ℕ) (begin end : ℕ → ℕ) (ends : List ℕ) → AreRanges n (length ends) begin end → AreEnds ends n begin end
    → crosses ends ≡ some_share n begin end
unfolding crosses
ranges_cross n begin end ends are told =
    let size : ℕ = length ends in
    let any : Bool = list_any (λ i. list_any (λ j. share_bytes (begin i) (end i) (begin j) (end j)) (range_with_len 0 n)) (range_with_len 0 n) in
    let shared : (i j : ℕ) → i < n → j < n → share_bytes (begin i) (end i) (begin j) (end j) ≡ true → any ≡ true =
    λ i j lt_i lt_j is. passes_here (λ m. list_any (λ l. share_bytes (begin m) (end m) (begin l) (end l)) (range_with_len 0 n)) (range_with_len 0 n) i
    (in_range 0 n i (omega arith) (omega arith))
    (passes_here (λ l. share_bytes (begin i) (end i) (begin l) (end l)) (range_with_len 0 n) j (in_range 0 n j (omega arith) (omega arith)) is) in
    let there : (i : ℕ) → i < n → get_or ends (begin i) 0 ≡ end i =
    λ i lt. told (begin i) (let a : begin i < end i = are.some i lt in let b : end i ≤ size = are.within i lt in omega arith)
    ∙ ends_there n size begin end i are lt in
    let crossed : (i j : ℕ) → i < n → j < n → begin j < begin i → begin i < end j → list_any (crosses_at ends) (range_with_len 0 size) ≡ true =
    λ i j lt_i lt_j before inside.
    let some : begin i < end i = are.some i lt_i in
    let within : end i ≤ size = are.within i lt_i in
    let end_i : get_or ends (begin i) 0 ≡ end i = there i lt_i in
    let end_j : get_or ends (begin j) 0 ≡ end j = there j lt_j in
    let high : get_or ends (begin j) 0 ≤ greatest_below ends (begin i) = greatest_least ends (begin i) (begin j) (omega arith) before in
    passes_here (crosses_at ends) (range_with_len 0 size) (begin i) (in_range 0 size (begin i) (omega arith) (omega arith))
    (crosses_there ends (begin i) (omega arith) (omega arith)) in
    both_ways (list_any (crosses_at ends) (range_with_len 0 size)) any
    (λ is.
    let found = any_member (crosses_at ends) (range_with_len 0 size) is in
    let k : ℕ = found.0 in
    let range : (0 ≤ k) × (k < 0 + size) = of_range 0 size k found.1 in
    let parts : (0 < get_or ends k 0) × (k < greatest_below ends k) = crosses_parts ends k found.2 in
    let told_k : get_or ends k 0 ≡ end_at n begin end k = told k (omega arith) in
    let i = begins_there n begin end k (omega arith) in
    elim (greatest_is ends k (omega arith)) [
      | inl none ↦ absurd (omega arith)
      | inr some ↦
          let l : ℕ = some.0 in
          let before : l < k = some.1 in
          let is_greatest : get_or ends l 0 ≡ greatest_below ends k = some.2 in
          let told_l : get_or ends l 0 ≡ end_at n begin end l = told l (omega arith) in
          let j = begins_there n begin end l (omega arith) in
          let begin_i : begin i.0 ≡ k = i.2 in
          let begin_j : begin j.0 ≡ l = j.2 in
          let end_j : end j.0 ≡ end_at n begin end l = j.3 in
          let some_i : begin i.0 < end i.0 = are.some i.0 i.1 in
          shared i.0 j.0 i.1 j.1 (shares (begin i.0) (end i.0) (begin j.0) (end j.0) (λ same. omega arith) (omega arith) (omega arith))
    ])
    (λ is.
    let row = any_member (λ m. list_any (λ l. share_bytes (begin m) (end m) (begin l) (end l)) (range_with_len 0 n)) (range_with_len 0 n) is in
    let i : ℕ = row.0 in
    let one = any_member (λ l. share_bytes (begin i) (end i) (begin l) (end l)) (range_with_len 0 n) row.2 in
    let j : ℕ = one.0 in
    let range_i : (0 ≤ i) × (i < 0 + n) = of_range 0 n i row.1 in
    let range_j : (0 ≤ j) × (j < 0 + n) = of_range 0 n j one.1 in
    elim (share_parts (begin i) (end i) (begin j) (end j) one.2) [
      | inl before ↦ crossed j i (omega arith) (omega arith) before.0 before.1
      | inr after ↦ crossed i j (omega arith) (omega arith) after.0 after.1
    ])

-- The sweep.

pub sweep_more : (ends : List ℕ) (k : ℕ) → list_any (crosses_at ends) (range_with_len 0 k) ≡ false → crosses_at ends k ≡ false
    → list_any (crosses_at ends) (range_with_len 0 (k + 1)) ≡ false
sweep_more ends k none here =
    none_pass (crosses_at ends) (range_with_len 0 (k + 1)) (λ j at.
    let range : (0 ≤ j) × (j < 0 + (k + 1)) = of_range 0 (k + 1) j at in
    elim (cases j k (omega arith)) [
      | inl before ↦ none_passes (crosses_at ends) (range_with_len 0 k) j none (in_range 0 k j (omega arith) (omega arith))
      | inr same ↦ ap (crosses_at ends) same ∙ here
    ])
  where
    cases : (j k : ℕ) → j < k + 1 → (j < k) ⊎ (j ≡ k)
    cases j k lt = grind arith

pub sweep_finds : (ends : List ℕ) (k : ℕ) → k < length ends → 0 < get_or ends k 0 → k < greatest_below ends k → crosses ends ≡ true
unfolding crosses
sweep_finds ends k lt some high =
    passes_here (crosses_at ends) (range_with_len 0 (length ends)) k (in_range 0 (length ends) k (omega arith) (omega arith)) (crosses_there ends k some high)

pub sweep_none : (ends : List ℕ) (k : ℕ) → length ends ≤ k → list_any (crosses_at ends) (range_with_len 0 k) ≡ false → crosses ends ≡ false
unfolding crosses
sweep_none ends k past none =
    none_pass (crosses_at ends) (range_with_len 0 (length ends)) (λ j at.
    let range : (0 ≤ j) × (j < 0 + length ends) = of_range 0 (length ends) j at in
    none_passes (crosses_at ends) (range_with_len 0 k) j none (in_range 0 k j (omega arith) (omega arith)))

-- a place by the greatest end so far
pub place_is : (ends : List ℕ) (k end greatest : ℕ) → end ≡ get_or ends k 0 → greatest ≡ greatest_below ends k → (not (end == 0) && nat_lt k greatest)
    ≡ crosses_at ends k
place_is ends k end greatest at is = ap (λ (e : ℕ). not (e == 0) && nat_lt k greatest) at ∙ ap (λ (g : ℕ). not (get_or ends k 0 == 0) && nat_lt k g) is
