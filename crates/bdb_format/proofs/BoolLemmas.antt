-- Laws that several crates use.
use Rattle.std.proofs.Common.{arith, ◌≡◌, Bool, true, false, ◌&&◌, cond, ◌||◌, not}

-- where both are false together and the first is true, the second is false
pub second_false : (a b : Bool) → a ≡ true → (a && b) ≡ false → b ≡ false
second_false a b is none = grind arith

-- what isn't false
pub true_from_not : (b : Bool) → not b ≡ false → b ≡ true
true_from_not b is = grind arith

-- where the second is false, the first is true
pub first_or_none : (a b : Bool) → b ≡ false → not (a || b) ≡ false → a ≡ true
first_or_none a b none passed = grind arith

-- a test, or true
pub cond_or : (a b : Bool) → cond a true b ≡ (a || b)
cond_or a b = grind arith

-- where the first isn't without the second, and is, the second is
pub so_second : (a b : Bool) → (a && not b) ≡ false → a ≡ true → b ≡ true
so_second a b none is = grind arith
