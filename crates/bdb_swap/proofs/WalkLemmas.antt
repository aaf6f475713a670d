-- A walk over ranges, from each to its end.
use Rattle.std.proofs.Common.{◌≡◌, ◌∙◌, inl, inr, ℕ, zero, suc, ◌+◌, ◌-◌, ◌<◌, ◌≤◌, Bool, true, false, cond, List, length, take, get_or, set, refl, sym, ap}
use Rattle.std.proofs.Common.{subst, arith, max, min, not, nat_lt, ◌==◌}
use Rattle.std.specs.List.{fold, list_any, range_with_len}
use Rattle.std.proofs.lemmas.Bool.{cases_lt}
use Rattle.std.proofs.lemmas.Bool.Decides.{nat_tests}
use Rattle.std.proofs.lemmas.List.{get_or_past, take-set-le, take_all}
use Rattle.std.proofs.lemmas.List.Sums.{sum_by_more, sum_by-set}
use Rattle.bdb_swap.specs.Crossing.{AreNoted, beginnings, crosses, crosses_at, greatest_below}
use Rattle.bdb_swap.proofs.CrossLemmas.{greatest_more, sweep_finds, sweep_more, sweep_none}

-- the ranges that begin below a place
abbrev begun : List ℕ → ℕ → ℕ
begun ends k = beginnings (take k ends)

-- no range that begins below a place begins within another
abbrev NoneCross : List ℕ → ℕ → Type 0
NoneCross ends k = list_any (crosses_at ends) (range_with_len 0 k) ≡ false

-- all ranges below a place were met, and they end there; or one was passed by
pub data IsWalked (ends : List ℕ) (place met : ℕ) : Type 0 where
  AllMet : met ≡ begun ends place → NoneCross ends place → greatest_below ends place ≤ place → IsWalked ends place met
  OnePassed : met < begun ends place → crosses ends ≡ true → IsWalked ends place met

-- One place more.

-- whether a range begins here, as a number
abbrev pub one : ℕ → ℕ
one end = cond (end == 0) 0 1

begun_more : (ends : List ℕ) (k : ℕ) → k < length ends → begun ends (k + 1) ≡ begun ends k + one (get_or ends k 0)
begun_more ends k lt = sum_by_more (λ end. cond (not (end == 0)) 1 0) ends k 0 lt ∙ ap (λ n. begun ends k + n) (same (get_or ends k 0 == 0))
  where
    same : (b : Bool) → ◌≡◌ {A = ℕ} (cond (not b) 1 0) (cond b 0 1)
    same true = refl
    same false = refl

-- behind the last place there are no more
past_all : (ends : List ℕ) (k : ℕ) → length ends ≤ k → take (k + 1) ends ≡ take k ends
past_all ends k past = take_all (k + 1) ends (omega arith) ∙ sym (take_all k ends past)

begun_low : (ends : List ℕ) (k : ℕ) → begun ends k ≤ begun ends (k + 1)
begun_low ends k =
    elim (cases_lt k (length ends)) [
      | inl lt ↦ omega (arith, begun_more ends k lt)
      | inr past ↦ let same : begun ends (k + 1) ≡ begun ends k = ap beginnings (past_all ends k past) in omega arith
    ]

begun_rises : (ends : List ℕ) (k n : ℕ) → begun ends k ≤ begun ends (k + n)
begun_rises ends k zero = let same : begun ends (k + 0) ≡ begun ends k = ap (begun ends) (omega arith) in omega arith
begun_rises ends k (suc n) =
    let next : begun ends (k + suc n) ≡ begun ends (k + 1 + n) = ap (begun ends) (omega arith) in
    omega (arith, begun_low ends k, begun_rises ends (k + 1) n)

-- A place where no range begins changes nothing.

none_here : (ends : List ℕ) (k : ℕ) → get_or ends k 0 ≡ 0 → crosses_at ends k ≡ false
none_here ends k none = grind (arith, nat_tests)

one_some : (end : ℕ) → 0 < end → one end ≡ 1
one_some end some = grind (arith, nat_tests)

begun_same : (ends : List ℕ) (k : ℕ) → get_or ends k 0 ≡ 0 → begun ends (k + 1) ≡ begun ends k
begun_same ends k none =
    elim (cases_lt k (length ends)) [
      | inl lt ↦ begun_more ends k lt ∙ (ap (λ (end : ℕ). begun ends k + one end) none ∙ omega arith)
      | inr past ↦ ap beginnings (past_all ends k past)
    ]

greatest_same : (ends : List ℕ) (k : ℕ) → get_or ends k 0 ≡ 0 → greatest_below ends (k + 1) ≡ greatest_below ends k
greatest_same ends k none =
    elim (cases_lt k (length ends)) [
      | inl lt ↦ omega (arith, greatest_more ends k lt)
      | inr past ↦ ap (fold max 0) (past_all ends k past)
    ]

-- the places behind a range, up to its end: no range begins there, or one does that was passed by
inside : (ends : List ℕ) (k n met end : ℕ) → met ≡ begun ends k → NoneCross ends k → greatest_below ends k ≡ end → k + n ≡ end → IsWalked ends (k + n) met
inside ends k zero met end all none greatest there =
    subst (λ (place : ℕ). IsWalked ends place met) (omega arith) (AllMet all none (omega arith))
inside ends k (suc n) met end all none greatest there = elim (cases_lt 0 (get_or ends k 0)) [
  | inl some ↦ elim (cases_lt k (length ends)) [
    | inl lt ↦
        let more : begun ends (k + 1) ≡ begun ends k + 1 = begun_more ends k lt ∙ ap (λ (m : ℕ). begun ends k + m) (one_some (get_or ends k 0) some) in
        let rises : begun ends (k + 1) ≤ begun ends (k + 1 + n) = begun_rises ends (k + 1) n in
        let next : begun ends (k + suc n) ≡ begun ends (k + 1 + n) = ap (begun ends) (omega arith) in
        OnePassed (omega arith) (sweep_finds ends k lt some (omega arith))
    | inr past ↦ absurd (omega (arith, get_or_past ends k 0 past))
  ]
  | inr nothing ↦
      let none_there : get_or ends k 0 ≡ 0 = omega arith in
      subst (λ (place : ℕ). IsWalked ends place met) (omega arith)
      (inside ends (k + 1) n met end (all ∙ sym (begun_same ends k none_there)) (sweep_more ends k none (none_here ends k none_there))
      (greatest_same ends k none_there ∙ greatest) (omega arith))
]

-- A step of the walk.

pub begins : (more met end : ℕ) → (end ≡ 0 → ⊥) → more ≡ met + 1 → more ≡ met + one end
begins more met end some is = grind (arith, nat_tests)

pub begins_not : (more met end : ℕ) → end ≡ 0 → more ≡ met → more ≡ met + one end
begins_not more met end none is = grind (arith, nat_tests)

not_within : (ends : List ℕ) (k : ℕ) → greatest_below ends k ≤ k → crosses_at ends k ≡ false
not_within ends k low = grind (arith, nat_tests)

pub walked_next : (ends : List ℕ) (place met end next more : ℕ) → place < length ends → end ≡ get_or ends place 0 → more ≡ met + one end
    → next ≡ max end (place + 1)
    → IsWalked ends place met → IsWalked ends next more
walked_next ends place met end next more lt at met_is next_is (OnePassed few crossed) =
    let step : begun ends (place + 1) ≡ begun ends place + one end = begun_more ends place lt ∙ ap (λ (e : ℕ). begun ends place + one e) (sym at) in
    let rises : begun ends (place + 1) ≤ begun ends (place + 1 + (next - (place + 1))) = begun_rises ends (place + 1) (next - (place + 1)) in
    let there : begun ends next ≡ begun ends (place + 1 + (next - (place + 1))) = ap (begun ends) (omega arith) in
    OnePassed (omega arith) crossed
walked_next ends place met end next more lt at met_is next_is (AllMet all none low) =
    let step : begun ends (place + 1) ≡ begun ends place + one end = begun_more ends place lt ∙ ap (λ (e : ℕ). begun ends place + one e) (sym at) in
    let met_all : more ≡ begun ends (place + 1) = omega arith in
    let none_more : NoneCross ends (place + 1) = sweep_more ends place none (not_within ends place low) in
    let greatest : greatest_below ends (place + 1) ≡ max (greatest_below ends place) end = omega (arith, greatest_more ends place lt) in
    elim (cases_lt (place + 1) end) [
      | inl beyond ↦
          subst (λ (p : ℕ). IsWalked ends p more) (omega arith)
          (inside ends (place + 1) (end - (place + 1)) more end met_all none_more (omega arith) (omega arith))
      | inr near ↦ subst (λ (p : ℕ). IsWalked ends p more) (omega arith) (AllMet met_all none_more (omega arith))
    ]

-- Its begin and its end.

nothing_begun : (ends : List ℕ) (n : ℕ) → begun ends n ≡ 0 → NoneCross ends n × (greatest_below ends n ≡ 0)
nothing_begun ends zero none = (refl, refl)
nothing_begun ends (suc k) none =
    let next : suc k ≡ k + 1 = omega arith in
    let none_next : begun ends (k + 1) ≡ 0 = ap (begun ends) (sym next) ∙ none in
    let rest = nothing_begun ends k (omega (arith, begun_low ends k)) in
    let none_there : get_or ends k 0 ≡ 0 = elim (cases_lt 0 (get_or ends k 0)) [
      | inl some ↦ elim (cases_lt k (length ends)) [
        | inl lt ↦ absurd (omega (arith, begun_more ends k lt, one_some (get_or ends k 0) some))
        | inr past ↦ absurd (omega (arith, get_or_past ends k 0 past))
      ]
      | inr nothing ↦ omega arith
    ] in (
      subst (NoneCross ends) (sym next) (sweep_more ends k rest.0 (none_here ends k none_there)),
      ap (greatest_below ends) next ∙ (greatest_same ends k none_there ∙ rest.1),
    )

pub walked_none : (ends : List ℕ) (first places : ℕ) → AreNoted ends first places → IsWalked ends first 0
walked_none ends first places noted =
    let none = nothing_begun ends first noted.none in
    AllMet (sym noted.none) none.0 (omega (arith, none.1))

pub all_walked : (ends : List ℕ) (place met first places : ℕ) → length ends ≤ place → AreNoted ends first places → IsWalked ends place met
    → nat_lt met places ≡ crosses ends
all_walked ends place met first places past noted walked =
    by walked
  where
    whole : begun ends place ≡ beginnings ends
    whole = ap beginnings (take_all place ends past)

    below : (a b : ℕ) → a < b → nat_lt a b ≡ true
    below a b lt = grind (arith, nat_tests)

    not_below : (a b : ℕ) → a ≡ b → nat_lt a b ≡ false
    not_below a b same = grind (arith, nat_tests)

    by : IsWalked ends place met → nat_lt met places ≡ crosses ends
    by (AllMet all none low) = not_below met places (omega (arith, whole, noted.all)) ∙ sym (sweep_none ends place past none)
    by (OnePassed few crossed) = below met places (omega (arith, whole, noted.all)) ∙ sym crossed

-- What is noted.

-- nothing yet, where each place says that none begins there
pub none_noted : (ends : List ℕ) → ((k : ℕ) → k < length ends → get_or ends k 0 ≡ 0) → AreNoted ends (length ends) 0
none_noted ends clear = record {
  none = all (length ends) (omega arith);
  all = sym (ap beginnings (take_all (length ends) ends (omega arith)))
      ∙ all (length ends) (omega arith);
}
  where
    all : (n : ℕ) → n ≤ length ends → begun ends n ≡ 0
    all zero low = refl
    all (suc k) low =
        let next : suc k ≡ k + 1 = omega arith in
        ap (begun ends) next ∙ (begun_same ends k (clear k (omega arith)) ∙ all k (omega arith))

noted_set : (ends : List ℕ) (first places at end least : ℕ) → AreNoted ends first places → at < length ends → 0 < end → least ≡ min first at
    → AreNoted (set ends at end) least (places + cond (get_or ends at 0 == 0) 1 0)
noted_set ends first places at end least noted lt some least_is = record {
  none =
      let rises : begun ends least ≤ begun ends (least + (first - least)) = begun_rises ends least (first - least) in
      let whole : begun ends (least + (first - least)) ≡ begun ends first = ap (begun ends) (omega arith) in
      ap beginnings (take-set-le least ends at end (omega arith)) ∙ omega (arith, noted.none);
  all =
      let count : beginnings (set ends at end) + has (get_or ends at 0) ≡ beginnings ends + has end = sum_by-set has ends at end 0 lt in
      omega (arith, count, noted.all, has_some end some, has_or (get_or ends at 0));
}
  where
    has : ℕ → ℕ
    has e = cond (not (e == 0)) 1 0

    has_some : (e : ℕ) → 0 < e → has e ≡ 1
    has_some e more = grind (arith, nat_tests)

    has_or : (e : ℕ) → has e + cond (e == 0) 1 0 ≡ 1
    has_or e = grind (arith, nat_tests)

-- and one range more
pub noted_next : (ends more : List ℕ) (first places at end least count : ℕ) (alone : Bool) → AreNoted ends first places → at < length ends → 0 < end
    → more ≡ set ends at end → alone ≡ (get_or ends at 0 == 0) → least ≡ min first at → count ≡ places + cond alone 1 0 → AreNoted more least count
noted_next ends more first places at end least count alone noted lt some is alone_is least_is count_is =
    subst (λ xs. AreNoted xs least count) (sym is)
    (subst (AreNoted (set ends at end) least) (sym (count_is ∙ ap (λ b. places + cond b 1 0) alone_is))
    (noted_set ends first places at end least noted lt some least_is))
