-- The first of the numbers from a place on that passes a test.
use Rattle.std.proofs.lemmas.Bool.{cases_eq}
use Rattle.std.proofs.Common.{◌≡◌, ℕ, zero, suc, ◌+◌, ◌<◌, ◌≤◌, Bool, true, arith, unwrap_or}
use Rattle.std.specs.List.{find, range_with_len}

-- the first of the n numbers from a on that passes, else d
abbrev pub first_passing : (ℕ → Bool) → ℕ → ℕ → ℕ → ℕ
first_passing test a n d = unwrap_or (find test (range_with_len a n)) d

-- no number from a on that passes is less
pub least_passing : (test : ℕ → Bool) (a n d g : ℕ) → d ≡ a + n → a ≤ g → test g ≡ true → first_passing test a n d ≤ g
least_passing test a zero d g e h passes = omega arith
least_passing test a (suc n) d g e h passes = grind (arith, cases_eq a g, least_passing test (a + 1) n d g)

-- it passes, where some number among them does
pub first_passes :
    (test : ℕ → Bool) (a n d g : ℕ) → a ≤ g → g < a + n → test g ≡ true → test (first_passing test a n d) ≡ true
first_passes test a zero d g h below passes = absurd (omega arith)
first_passes test a (suc n) d g h below passes = grind (arith, cases_eq a g, first_passes test (a + 1) n d g)
