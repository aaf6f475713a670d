-- Laws of the members of a list.
use Rattle.std.proofs.Common.{◌≡◌, ◌⊎◌, ℕ, zero, suc, ◌+◌, ◌<◌, ◌≤◌, Bool, true, false, cond, List, [], ◌∷◌, ◌++◌, map, length, arith, refl, sym, ◌∙◌, ap}
use Rattle.std.proofs.Common.{subst, inl, inr}
use Rattle.std.specs.List.{Contains, filter, flat_map, list_any, range_with_len}
use Rattle.std.proofs.lemmas.List.Elements.{Contains-append_left, Contains-append_right, Contains-append_cases}
use Rattle.std.proofs.lemmas.List.Folds.{list_any_at}
use Rattle.std.proofs.lemmas.Bool.{cases_eq, or_from}

pub first_member : {X : Type 0} (x : X) (xs : List X) → Contains (x ∷ xs) x
first_member x xs = (0, omega arith, refl)

pub later_member : {X : Type 0} (y : X) (xs : List X) (x : X) → Contains xs x → Contains (y ∷ xs) x
later_member y xs x at = let lt : at.0 < length xs = at.1 in (suc at.0, omega arith, at.2)

pub member_cases : {X : Type 0} (y : X) (xs : List X) (x : X) → Contains (y ∷ xs) x → (y ≡ x) ⊎ Contains xs x
member_cases y xs x (zero, lt, at) = inl at
member_cases y xs x (suc k, lt, at) = inr (k, omega arith, at)

pub no_member : {X : Type 0} (xs : List X) (x : X) → xs ≡ [] → Contains xs x → ⊥
no_member [] x empty at = let lt : at.0 < 0 = at.1 in omega arith
no_member (y ∷ xs) x empty at = cc

pub is_empty : {X : Type 0} (xs : List X) → ((x : X) → Contains xs x → ⊥) → xs ≡ []
is_empty [] none = refl
is_empty (x ∷ xs) none = absurd (none x (first_member x xs))

-- a list of two parts begins as the first part does, or as the second where the first is empty
pub first_of_parts : {X : Type 0} (xs ys : List X) (z : X) (zs : List X) → xs ++ ys ≡ z ∷ zs → ((rest : List X) × (xs ≡ z ∷ rest)) ⊎ ((xs ≡ []) × (ys ≡ z ∷ zs))
first_of_parts [] ys z zs same = inr (refl, same)
first_of_parts (x ∷ xs) ys z zs same = let first : x ≡ z = cc in inl (xs, ap (λ w. w ∷ xs) first)

-- a number is a member of a list or it isn't
pub member_or_not : (xs : List ℕ) (x : ℕ) → Contains xs x ⊎ (Contains xs x → ⊥)
member_or_not [] x = inr (no_member [] x refl)
member_or_not (y ∷ ys) x =
    elim (cases_eq y x) [
      | inl same ↦ inl (subst (Contains (y ∷ ys)) same (first_member y ys))
      | inr other ↦
          elim (member_or_not ys x) [
            | inl later ↦ inl (later_member y ys x later)
            | inr out ↦ inr (λ at. elim (member_cases y ys x at) [ inl here ↦ other here | inr later ↦ out later ])
          ]
    ]

-- Maps, joins, filters and ranges.

pub of_map : {X Y : Type 0} (f : X → Y) (xs : List X) (y : Y) → Contains (map f xs) y → (x : X) × Contains xs x × (f x ≡ y)
of_map f [] y at = absurd (no_member [] y refl at)
of_map f (x ∷ xs) y at =
    elim (member_cases (f x) (map f xs) y at) [
      | inl here ↦ (x, first_member x xs, here)
      | inr later ↦ let found : (w : _) × Contains xs w × (f w ≡ y) = of_map f xs y later in (found.0, later_member x xs found.0 found.1, found.2)
    ]

pub in_map : {X Y : Type 0} (f : X → Y) (xs : List X) (x : X) → Contains xs x → Contains (map f xs) (f x)
in_map f [] x at = absurd (no_member [] x refl at)
in_map f (y ∷ xs) x at =
    elim (member_cases y xs x at) [
      | inl here ↦ subst (λ w. Contains (f y ∷ map f xs) (f w)) here (first_member (f y) (map f xs))
      | inr later ↦ later_member (f y) (map f xs) (f x) (in_map f xs x later)
    ]

pub of_flat_map : {X Y : Type 0} (f : X → List Y) (xs : List X) (y : Y) → Contains (flat_map f xs) y → (x : X) × Contains xs x × Contains (f x) y
of_flat_map f [] y at = absurd (no_member [] y refl at)
of_flat_map f (x ∷ xs) y at =
    elim (Contains-append_cases (f x) (flat_map f xs) y at) [
      | inl here ↦ (x, first_member x xs, here)
      | inr later ↦ let found : (w : _) × Contains xs w × Contains (f w) y = of_flat_map f xs y later in (found.0, later_member x xs found.0 found.1, found.2)
    ]

pub in_flat_map : {X Y : Type 0} (f : X → List Y) (xs : List X) (x : X) (y : Y) → Contains xs x → Contains (f x) y → Contains (flat_map f xs) y
in_flat_map f [] x y at of = absurd (no_member [] x refl at)
in_flat_map f (w ∷ xs) x y at of =
    elim (member_cases w xs x at) [
      | inl here ↦ Contains-append_left (f w) (flat_map f xs) y (subst (λ v. Contains (f v) y) (sym here) of)
      | inr later ↦ Contains-append_right (f w) (flat_map f xs) y (in_flat_map f xs x y later of)
    ]

pub filter_step : {X : Type 0} (y x : X) (xs : List X) (b : Bool) → Contains (cond b (y ∷ xs) xs) x → ((b ≡ true) × (y ≡ x)) ⊎ Contains xs x
filter_step y x xs true at = grind (arith, member_cases y xs x at)
filter_step y x xs false at = inr at

pub of_filter : {X : Type 0} (test : X → Bool) (xs : List X) (x : X) → Contains (filter test xs) x → Contains xs x × (test x ≡ true)
of_filter test [] x at = absurd (no_member [] x refl at)
of_filter test (y ∷ xs) x at =
    elim (filter_step y x (filter test xs) (test y) at) [
      | inl (passes, here) ↦ (subst (Contains (y ∷ xs)) here (first_member y xs), subst (λ w. test w ≡ true) here passes)
      | inr later ↦ let found : Contains xs x × (test x ≡ true) = of_filter test xs x later in (later_member y xs x found.0, found.1)
    ]

pub in_filter : {X : Type 0} (test : X → Bool) (xs : List X) (x : X) → Contains xs x → test x ≡ true → Contains (filter test xs) x
in_filter test [] x at passes = absurd (no_member [] x refl at)
in_filter test (y ∷ ys) x at passes =
    elim (member_cases y ys x at) [
      | inl same ↦
          let here : test y ≡ true = ap test same ∙ passes in
          rw here (subst (λ z. Contains (z ∷ filter test ys) x) (sym same) (first_member x (filter test ys)))
      | inr later ↦
          elim (test y) as (λ b. Contains (cond b (y ∷ filter test ys) (filter test ys)) x) [
            | true ↦ later_member y (filter test ys) x (in_filter test ys x later passes)
            | false ↦ in_filter test ys x later passes
          ]
    ]

pub of_range : (a n x : ℕ) → Contains (range_with_len a n) x → (a ≤ x) × (x < a + n)
of_range a zero x at = absurd (no_member [] x refl at)
of_range a (suc n) x at = grind (arith, member_cases a (range_with_len (a + 1) n) x at, of_range (a + 1) n x)

pub in_range : (a n x : ℕ) → a ≤ x → x < a + n → Contains (range_with_len a n) x
in_range a zero x low high = absurd (omega arith)
in_range a (suc n) x low high =
    elim (cases_eq a x) [
      | inl here ↦ subst (Contains (a ∷ range_with_len (a + 1) n)) here (first_member a (range_with_len (a + 1) n))
      | inr other ↦ later_member a (range_with_len (a + 1) n) x (in_range (a + 1) n x (omega arith) (omega arith))
    ]

-- no member passes a test that the list fails
pub none_passes : {X : Type 0} (test : X → Bool) (xs : List X) (x : X) → list_any test xs ≡ false → Contains xs x → test x ≡ false
none_passes test xs x none at = grind (arith, at.2, list_any_at test xs at.0 x at.1)

pub none_pass : {X : Type 0} (test : X → Bool) (xs : List X) → ((x : X) → Contains xs x → test x ≡ false) → list_any test xs ≡ false
none_pass test [] none = refl
none_pass test (x ∷ xs) none =
    or_from (test x) (list_any test xs) (none x (first_member x xs)) (none_pass test xs (λ y at. none y (later_member x xs y at)))

-- where all pass, a filter keeps the list
pub all_pass : {X : Type 0} (test : X → Bool) (xs : List X) → ((x : X) → Contains xs x → test x ≡ true) → filter test xs ≡ xs
all_pass test [] all = refl
all_pass test (x ∷ xs) all =
    ap (λ b. cond b (x ∷ filter test xs) (filter test xs)) (all x (first_member x xs))
    ∙ ap (λ ys. x ∷ ys) (all_pass test xs (λ y at. all y (later_member x xs y at)))

-- no more pass than there are
pub few_pass : {X : Type 0} (test : X → Bool) (xs : List X) → length (filter test xs) ≤ length xs
few_pass test [] = omega arith
few_pass test (x ∷ xs) = by_test (test x) (few_pass test xs)
  where
    by_test : (b : Bool) → length (filter test xs) ≤ length xs → length (cond b (x ∷ filter test xs) (filter test xs)) ≤ length (x ∷ xs)
    by_test true rest = omega (arith, rest)
    by_test false rest = omega (arith, rest)

-- lists without a member, one after another
pub nothing_joined : {X Y : Type 0} (f : X → List Y) (xs : List X) → ((x : X) → Contains xs x → f x ≡ []) → flat_map f xs ≡ []
nothing_joined f xs none =
    is_empty (flat_map f xs) (λ y at. let found = of_flat_map f xs y at in no_member (f found.0) y (none found.0 found.1) found.2)
