-- Laws of lists in which each member is related to all that come later.
use Rattle.std.proofs.Common.{ℕ, zero, suc, ◌+◌, ◌<◌, ◌≤◌, Bool, true, false, cond, List, [], ◌∷◌, ◌++◌, length, map, arith, refl, subst, inl, inr}
use Rattle.std.specs.List.{Contains, enumerate_from, filter, flat_map, range_with_len}
use Rattle.std.proofs.lemmas.List.Elements.{Contains-append_cases}
use Rattle.bdb_law_kept.specs.Later.{AllLater}
use Rattle.bdb_databases.proofs.of_format.MemberLemmas.{first_member, later_member, member_cases, no_member, of_filter, of_flat_map, of_map, of_range}

pub later_one : {X : Type 0} (R : X → X → Type 0) (x : X) → AllLater R (x ∷ [])
later_one R x = (λ y at. absurd (no_member [] y refl at), tt)

pub later_append : {X : Type 0} (R : X → X → Type 0) (xs ys : List X) → AllLater R xs → AllLater R ys
    → ((x y : X) → Contains xs x → Contains ys y → R x y) → AllLater R (xs ++ ys)
later_append R [] ys first second across = second
later_append R (x ∷ xs) ys first second across = (
  (λ y at. elim (Contains-append_cases xs ys y at) [
    | inl here ↦ first.0 y here
    | inr there ↦ across x y (first_member x xs) there
  ]),
  later_append R xs ys first.1 second (λ z y at_z at_y. across z y (later_member x xs z at_z) at_y),
)

-- lists that come from the members of a list, one after another
pub later_flat : {X Y : Type 0} (R : Y → Y → Type 0) (f : X → List Y) (xs : List X)
    → ((x : X) → Contains xs x → AllLater R (f x))
    → AllLater (λ x z. (y w : Y) → Contains (f x) y → Contains (f z) w → R y w) xs
    → AllLater R (flat_map f xs)
later_flat R f [] inside across = tt
later_flat R f (x ∷ xs) inside across =
    later_append R (f x) (flat_map f xs) (inside x (first_member x xs))
    (later_flat R f xs (λ z at. inside z (later_member x xs z at)) across.1)
    (λ y w at_y at_w. let found = of_flat_map f xs w at_w in across.0 found.0 found.1 y w at_y found.2)

-- another relation that follows
pub later_other : {X : Type 0} (R S : X → X → Type 0) (xs : List X) → ((x y : X) → Contains xs x → Contains xs y → R x y → S x y)
    → AllLater R xs → AllLater S xs
later_other R S [] more all = tt
later_other R S (x ∷ xs) more all = (
  (λ y at. more x y (first_member x xs) (later_member x xs y at) (all.0 y at)),
  later_other R S xs (λ z y at_z at_y. more z y (later_member x xs z at_z) (later_member x xs y at_y)) all.1,
)

pub later_filter : {X : Type 0} (R : X → X → Type 0) (test : X → Bool) (xs : List X) → AllLater R xs → AllLater R (filter test xs)
later_filter R test [] all = tt
later_filter R test (x ∷ xs) all = by_test (test x) (later_filter R test xs all.1)
  where
    by_test : (b : Bool) → AllLater R (filter test xs) → AllLater R (cond b (x ∷ filter test xs) (filter test xs))
    by_test true rest = ((λ y at. all.0 y (of_filter test xs y at).0), rest)
    by_test false rest = rest

pub later_map : {X Y : Type 0} (R : Y → Y → Type 0) (f : X → Y) (xs : List X) → AllLater (λ x z. R (f x) (f z)) xs → AllLater R (map f xs)
later_map R f [] all = tt
later_map R f (x ∷ xs) all = (
  (λ y at. let found = of_map f xs y at in subst (R (f x)) found.2 (all.0 found.0 found.1)),
  later_map R f xs all.1,
)

pub later_range : (a n : ℕ) → AllLater (λ i j. i < j) (range_with_len a n)
later_range a zero = tt
later_range a (suc n) = ((λ j at. let low = of_range (a + 1) n j at in omega (arith, low.0)), later_range (a + 1) n)

-- a placed member has a place from the first one on, and is a member
pub of_enumerate : {X : Type 0} (i : ℕ) (xs : List X) (placed : ℕ × X) → Contains (enumerate_from i xs) placed
    → (i ≤ placed.0) × (placed.0 < i + length xs) × Contains xs placed.1
of_enumerate i [] placed at = absurd (no_member [] placed refl at)
of_enumerate i (x ∷ xs) placed at =
    elim (member_cases (i, x) (enumerate_from (i + 1) xs) placed at) [
      | inl same ↦ subst (λ (p : ℕ × _). (i ≤ p.0) × (p.0 < i + length (x ∷ xs)) × Contains (x ∷ xs) p.1) same
          (omega arith, omega arith, first_member x xs)
      | inr later ↦
          let found = of_enumerate (i + 1) xs placed later in
          (omega (arith, found.0), omega (arith, found.1), later_member x xs placed.1 found.2)
    ]

pub later_enumerate : {X : Type 0} (i : ℕ) (xs : List X) → AllLater (λ (a b : ℕ × X). a.0 < b.0) (enumerate_from i xs)
later_enumerate i [] = tt
later_enumerate i (x ∷ xs) =
    ((λ b at. let found = of_enumerate (i + 1) xs b at in omega (arith, found.0)), later_enumerate (i + 1) xs)
