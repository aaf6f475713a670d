-- The order of numbers and of keys is strict and total, and a test tells equal ones.
use Rattle.std.proofs.Common.{is_eq, nat_cmp, ◌≡◌, ℕ, List, [], ◌∷◌, refl, sym, ◌∙◌, ap, arith, le-ltb, eq-eqb, false, true}
use Rattle.std.proofs.lemmas.Bool.{cases_order, false_from_ne_true}
use Rattle.std.proofs.lemmas.Bool.Decides.{nat_tests}
use Rattle.std.proofs.lemmas.Slice.Eq.{bytes_eq-Decides}
use Rattle.std.specs.Str.{bytes_eq}
use Rattle.bdb_format.specs.Terms.{Less, less}

-- two numbers that differ
pub other_number : (a b : ℕ) → (a ≡ b → ⊥) → is_eq (nat_cmp a b) ≡ false
other_number a b differ = grind (arith, cases_order)

pub less_self : (xs : List ℕ) → less xs xs ≡ false
less_self [] = refl
less_self (x ∷ xs) = rw (le-ltb x x (omega arith), eq-eqb x x refl, less_self xs) refl

pub not_less_same : (xs : List ℕ) → Less xs xs → ⊥
not_less_same xs h = absurd (cc (less_self xs, h))

pub not_less_both : (xs ys : List ℕ) → Less xs ys → Less ys xs → ⊥
not_less_both xs [] p q = absurd cc
not_less_both [] (y ∷ ys) p q = absurd cc
not_less_both (x ∷ xs) (y ∷ ys) p q = grind (arith, nat_tests, not_less_both xs ys)

pub less_trans : (xs ys zs : List ℕ) → Less xs ys → Less ys zs → Less xs zs
less_trans xs ys [] p q = absurd cc
less_trans xs [] (z ∷ zs) p q = absurd cc
less_trans [] (y ∷ ys) (z ∷ zs) p q = refl
less_trans (x ∷ xs) (y ∷ ys) (z ∷ zs) p q = grind (arith, nat_tests, less_trans xs ys zs)

-- of two lists of which neither is less, both are the same
pub same_unless_less : (xs ys : List ℕ) → less xs ys ≡ false → less ys xs ≡ false → xs ≡ ys
same_unless_less [] [] p q = refl
same_unless_less [] (y ∷ ys) p q = absurd cc
same_unless_less (x ∷ xs) [] p q = absurd cc
same_unless_less (x ∷ xs) (y ∷ ys) p q = grind (arith, nat_tests, same_unless_less xs ys)

-- the lesser of what isn't less is less
pub below_less : (xs ys zs : List ℕ) → less ys xs ≡ false → Less ys zs → Less xs zs
below_less xs ys zs above lt = grind (arith, less_trans xs ys zs, same_unless_less xs ys)

pub less_not_back : (xs ys : List ℕ) → Less xs ys → less ys xs ≡ false
less_not_back xs ys lt = false_from_ne_true (less ys xs) (λ back. not_less_both xs ys lt back)

-- what is less than a list is less than one that isn't less than that
pub less_above : (xs ys zs : List ℕ) → Less xs ys → less zs ys ≡ false → Less xs zs
less_above xs ys zs lt above = grind (arith, less_trans xs ys zs, same_unless_less ys zs)

-- equal bytes
pub eq_self : (a : List ℕ) → bytes_eq a a ≡ true
eq_self a = (bytes_eq-Decides a a).1 refl

pub eq_same : (a b : List ℕ) → bytes_eq a b ≡ true → a ≡ b
eq_same a b is = (bytes_eq-Decides a b).0 is

-- bytes that differ, the other way round
pub differ_back : (a b : List ℕ) → bytes_eq a b ≡ false → bytes_eq b a ≡ false
differ_back a b differ =
    false_from_ne_true (bytes_eq b a)
    (λ back. let same : b ≡ a = eq_same b a back in absurd (cc (sym differ ∙ (ap (bytes_eq a) same ∙ eq_self a))))
