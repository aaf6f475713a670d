-- Steps of loops that count: over a slice, over a range, and over what an iterator gives.
use Rattle.std.proofs.Common.{◌≡◌, ℕ, zero, suc, ◌+◌, ◌-◌, ◌*◌, ◌≤◌, ◌<◌, Bool, true, false, cond, List, [], ◌∷◌, ◌++◌, length, take, arith, refl, sym, ◌∙◌, ap}
use Rattle.std.proofs.Common.{subst}
use Rattle.std.proofs.Common.{length-append}
use Rattle.std.specs.Prelude.{get_or}
use Rattle.std.specs.List.{count_by, flat_map, range_with_len, sum_by}
use Rattle.std.proofs.lemmas.List.Sums.{sum_by-append, sum_by-cons, sum_by_more, sum_by_more_le}
use Rattle.bdb_apart.proofs.of_format.ListLemmas.{sum_last}

-- Slices.

pub slice_more : {X : Type 0} (f : X → ℕ) (xs : List X) (i n : ℕ) (d : X) → i < length xs → n ≡ f (get_or xs i d)
    → sum_by f (take (i + 1) xs) ≡ sum_by f (take i xs) + n
slice_more f xs i n d there is = sum_by_more f xs i d there ∙ ap (λ m. sum_by f (take i xs) + m) (sym is)

pub slice_most : {X : Type 0} (f : X → ℕ) (xs : List X) (i n : ℕ) (d : X) → i < length xs → n ≡ f (get_or xs i d)
    → sum_by f (take i xs) + n ≤ sum_by f xs
slice_most f xs i n d there is = subst (λ m. sum_by f (take i xs) + m ≤ sum_by f xs) (sym is) (sum_by_more_le f xs i d there)

-- Ranges.

pub range_most : (f : ℕ → ℕ) (n m : ℕ) → sum_by f (range_with_len 0 n) ≤ sum_by f (range_with_len 0 (n + m))
range_most f n zero = subst (λ k. sum_by f (range_with_len 0 n) ≤ sum_by f (range_with_len 0 k)) (let same : n ≡ n + 0 = omega arith in same) (omega arith)
range_most f n (suc m) =
    subst (λ k. sum_by f (range_with_len 0 n) ≤ sum_by f (range_with_len 0 k)) (let same : n + m + 1 ≡ n + suc m = omega arith in same)
    (omega (arith, range_most f n m, sum_last f (n + m)))

-- What an iterator gives.

pub list_more : {X : Type 0} (f : X → ℕ) (xs : List X) (x : X) → sum_by f (xs ++ x ∷ []) ≡ sum_by f xs + f x
list_more f xs x = omega (arith, sum_by-append f xs (x ∷ []), sum_by-cons f x [])

-- those that are left, by the first of them
pub left_more : {X : Type 0} (test : X → Bool) {old new : List X} {x : X} → old ≡ x ∷ new → count_by test old ≡ cond (test x) 1 0 + count_by test new
left_more test {old = old} {new = new} {x = x} steps = ap (count_by test) steps ∙ sum_by-cons (λ y. cond (test y) 1 0) x new

-- Lists joined.

pub joined_sum : {A B : Type 0} (f : A → List B) (xs : List A) → length (flat_map f xs) ≡ sum_by (λ x. length (f x)) xs
joined_sum f [] = refl
joined_sum f (x ∷ xs) = omega (arith, length-append (f x) (flat_map f xs), joined_sum f xs, sum_by-cons (λ x. length (f x)) x xs)
