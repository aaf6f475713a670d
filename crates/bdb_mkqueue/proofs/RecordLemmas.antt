-- The records of a list that grows.
use Rattle.std.proofs.Common.{◌≡◌, ℕ, ◌+◌, ◌-◌, ◌<◌, ◌≤◌, Bool, true, false, cond, List, [], ◌∷◌, ◌++◌, Option, Some, None, arith, refl, sym, ◌∙◌, ap, inl, inr, ◌==◌, is_some}
use Rattle.bdb_mkqueue.proofs.Common.{cases_Bool, eq-eqb, ne_eqb, Pair, AscendFrom, number_of, record_of, next_number}

-- numbers that ascend, cut in two
pub ascend_both : (least : ℕ) (xs ys : List Pair) → AscendFrom least (xs ++ ys) → AscendFrom least xs × AscendFrom (next_number least xs) ys
ascend_both least [] ys is = (tt, is)
ascend_both least (x ∷ xs) ys is =
    let rest = ascend_both (number_of x.key + 1) xs ys is.1 in ((is.0, rest.0), rest.1)

pub next-append : (least : ℕ) (xs : List Pair) (y : Pair) → next_number least (xs ++ (y ∷ [])) ≡ number_of y.key + 1
next-append least [] y = refl
next-append least (x ∷ xs) y = next-append (number_of x.key + 1) xs y

pub next_low : (least : ℕ) (xs : List Pair) → AscendFrom least xs → least ≤ next_number least xs
next_low least [] is = omega arith
next_low least (x ∷ xs) is = let rest = next_low (number_of x.key + 1) xs is.1 in omega (arith, rest, is.0)

-- a record that isn't the first one is one of the others
pub record_other : (x : Pair) (xs : List Pair) (r : ℕ) → (number_of x.key ≡ r → ⊥) → record_of (x ∷ xs) r ≡ record_of xs r
record_other x xs r differs = ap (λ b. cond b (Some x.value) (record_of xs r)) (ne_eqb (number_of x.key) r differs)

pub record_first : (x : Pair) (xs : List Pair) (r : ℕ) → number_of x.key ≡ r → record_of (x ∷ xs) r ≡ Some x.value
record_first x xs r same = ap (λ b. cond b (Some x.value) (record_of xs r)) (eq-eqb (number_of x.key) r same)

-- there is none below the least, and none from the next on
pub none_below : (least : ℕ) (xs : List Pair) (r : ℕ) → AscendFrom least xs → r < least → record_of xs r ≡ None
none_below least [] r is low = refl
none_below least (x ∷ xs) r is low =
    record_other x xs r (λ same. omega (arith, same, low, is.0)) ∙ none_below (number_of x.key + 1) xs r is.1 (omega (arith, low, is.0))

pub none_past : (least : ℕ) (xs : List Pair) (r : ℕ) → AscendFrom least xs → next_number least xs ≤ r → record_of xs r ≡ None
none_past least [] r is past = refl
none_past least (x ∷ xs) r is past = grind (arith, next_low, record_other, none_past (number_of x.key + 1) xs r is.1 past)

-- one more record
pub record_more : (xs : List Pair) (y : Pair) (r : ℕ) → (number_of y.key ≡ r → ⊥) → record_of (xs ++ (y ∷ [])) r ≡ record_of xs r
record_more [] y r differs = record_other y [] r differs
record_more (x ∷ xs) y r differs = ap (λ o. cond (number_of x.key == r) (Some x.value) o) (record_more xs y r differs)

pub record_last : (xs : List Pair) (y : Pair) → record_of xs (number_of y.key) ≡ None → record_of (xs ++ (y ∷ [])) (number_of y.key) ≡ Some y.value
record_last [] y none = record_first y [] (number_of y.key) refl
record_last (x ∷ xs) y none =
    elim (cases_Bool (number_of x.key == number_of y.key)) [
      | inl same ↦
          absurd (let some : Some x.value ≡ None =
          sym (ap (λ b. cond b (Some x.value) (record_of xs (number_of y.key))) same) ∙ none in cc)
      | inr other ↦
          ap (λ b. cond b (Some x.value) (record_of (xs ++ (y ∷ [])) (number_of y.key))) other
          ∙ record_last xs y (sym (ap (λ b. cond b (Some x.value) (record_of xs (number_of y.key))) other) ∙ none)
    ]

-- the last record is there
some_of : (b : Bool) (value : List ℕ) (o : Option (List ℕ)) → is_some o ≡ true → is_some (cond b (Some value) o) ≡ true
some_of true value o some = refl
some_of false value o some = some

pub last_there : (x : Pair) (xs : List Pair) → is_some (record_of (x ∷ xs) (next_number (number_of x.key + 1) xs - 1)) ≡ true
last_there x [] = ap is_some (record_first x [] (number_of x.key + 1 - 1) (omega arith))
last_there x (y ∷ ys) = grind (arith, some_of, last_there y ys)
