-- Sums over lists of lists, and over the databases of a metadata page.
use Rattle.std.proofs.Common.{◌≡◌, ℕ, zero, suc, ◌+◌, ◌<◌, ◌≤◌, Bool, true, false, cond, List, [], ◌∷◌, arith, refl, sym, ◌∙◌, ap}
use Rattle.std.proofs.Common.{inl, inr}
use Rattle.std.specs.Prelude.{Option, Some, None, not}
use Rattle.std.specs.List.{count_by, filter, find, range_with_len, sum_by}
use Rattle.std.proofs.lemmas.Bool.{cases_eq}
use Rattle.std.proofs.lemmas.List.Filters.{sum_by-filter_both}
use Rattle.std.proofs.lemmas.List.Sums.{sum_by-cons}
use Rattle.bdb_rescue.proofs.of_law_sums.CountLemmas.{sum_plus, sum_same}

-- Sums.

pub sum_none : {X : Type 0} (f : X → ℕ) (xs : List X) → ((x : X) → f x ≡ 0) → sum_by f xs ≡ 0
sum_none f [] none = refl
sum_none f (x ∷ xs) none = omega (arith, sum_by-cons f x xs, none x, sum_none f xs none)

-- of sums, in the other order
pub sum_turned : {X Y : Type 0} (f : X → Y → ℕ) (xs : List X) (ys : List Y) → sum_by (λ x. sum_by (f x) ys) xs ≡ sum_by (λ y. sum_by (λ x. f x y) xs) ys
sum_turned f [] ys = sym (sum_none (λ y. sum_by (λ x. f x y) []) ys (λ y. refl))
sum_turned f (x ∷ xs) ys =
    sum_by-cons (λ x. sum_by (f x) ys) x xs
    ∙ (ap (λ n. sum_by (f x) ys + n) (sum_turned f xs ys)
    ∙ (sym (sum_plus (f x) (λ y. sum_by (λ x. f x y) xs) ys)
    ∙ sym (sum_same (λ y. sum_by (λ x. f x y) (x ∷ xs)) (λ y. f x y + sum_by (λ x. f x y) xs) ys (λ y at. sum_by-cons (λ x. f x y) x xs))))

-- those that pass a test, and those that don't
pub sum_parted : {X : Type 0} (f : X → ℕ) (test : X → Bool) (xs : List X) → sum_by f (filter test xs) + sum_by f (filter (λ x. not (test x)) xs) ≡ sum_by f xs
sum_parted f test xs = sum_by-filter_both test (λ x. not (test x)) (λ x. refl) f xs

-- Sums over pages of which one counts.

none_after : (f : ℕ → ℕ) (m a n : ℕ) → m < a → ((p : ℕ) → (p ≡ m → ⊥) → f p ≡ 0) → sum_by f (range_with_len a n) ≡ 0
none_after f m a zero past none = refl
none_after f m a (suc n) past none =
    omega (arith, sum_by-cons f a (range_with_len (a + 1) n), none a (λ same. omega (arith, past, same)), none_after f m (a + 1) n (omega (arith, past)) none)

pub one_page : (f : ℕ → ℕ) (m a n : ℕ) → ((p : ℕ) → (p ≡ m → ⊥) → f p ≡ 0) → f m ≤ 1 → sum_by f (range_with_len a n) ≤ 1
one_page f m a zero none one = omega arith
one_page f m a (suc n) none one = elim (cases_eq a m) [
  | inl same ↦
      let first : f a ≤ 1 = rw same one in
      let rest : sum_by f (range_with_len (a + 1) n) ≡ 0 = none_after f m (a + 1) n (omega (arith, same)) none in
      omega (arith, sum_by-cons f a (range_with_len (a + 1) n), first, rest)
  | inr other ↦ omega (arith, sum_by-cons f a (range_with_len (a + 1) n), none a other, one_page f m (a + 1) n none one)
]

-- Sums over values of which one has a mark.

abbrev pub picked : {X : Type 0} → (X → ℕ) → Option X → ℕ
picked f None = 0
picked f (Some x) = f x

none_marked : {X : Type 0} (mark : X → Bool) (f : X → ℕ) (xs : List X) → count_by mark xs ≡ 0 → ((x : X) → mark x ≡ false → f x ≡ 0) → sum_by f xs ≡ 0
none_marked mark f [] none zeros = refl
none_marked {X = X} mark f (x ∷ xs) none zeros = by_mark (mark x) refl (none_marked mark f xs)
  where
    by_mark : (b : Bool) → mark x ≡ b → (count_by mark xs ≡ 0 → ((x : X) → mark x ≡ false → f x ≡ 0) → sum_by f xs ≡ 0) → sum_by f (x ∷ xs) ≡ 0
    by_mark true is rest = absurd (omega (arith, none, sum_by-cons (λ x. cond (mark x) 1 0) x xs, ap {B = ℕ} (λ (b : Bool). cond b 1 0) is))
    by_mark false is rest =
        let counts : count_by mark xs ≡ 0 = omega (arith, none, sum_by-cons (λ x. cond (mark x) 1 0) x xs, ap {B = ℕ} (λ (b : Bool). cond b 1 0) is) in
        omega (arith, sum_by-cons f x xs, zeros x is, rest counts zeros)

pub one_marked : {X : Type 0} (mark : X → Bool) (f : X → ℕ) (xs : List X) → count_by mark xs ≤ 1 → ((x : X) → mark x ≡ false → f x ≡ 0)
    → sum_by f xs ≡ picked f (find mark xs)
one_marked mark f [] one zeros = refl
one_marked {X = X} mark f (x ∷ xs) one zeros = by_mark (mark x) refl (one_marked mark f xs)
  where
    by_mark : (b : Bool) → mark x ≡ b → (count_by mark xs ≤ 1 → ((x : X) → mark x ≡ false → f x ≡ 0) → sum_by f xs ≡ picked f (find mark xs))
        → sum_by f (x ∷ xs) ≡ picked f (cond b (Some x) (find mark xs))
    by_mark true is rest =
        let none : count_by mark xs ≡ 0 = omega (arith, one, sum_by-cons (λ x. cond (mark x) 1 0) x xs, ap {B = ℕ} (λ (b : Bool). cond b 1 0) is) in
        omega (arith, sum_by-cons f x xs, none_marked mark f xs none zeros)
    by_mark false is rest =
        let few : count_by mark xs ≤ 1 = omega (arith, one, sum_by-cons (λ x. cond (mark x) 1 0) x xs, ap {B = ℕ} (λ (b : Bool). cond b 1 0) is) in
        omega (arith, sum_by-cons f x xs, zeros x is, rest few zeros)
