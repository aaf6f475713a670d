-- Numbers that ascend.
use Rattle.std.proofs.Common.{ℕ, suc, zero, ◌+◌, ◌<◌, ◌≤◌, List, [], ◌∷◌, ◌++◌, arith}
use Rattle.std.specs.List.{range_with_len}
use Rattle.bdb_law_grove.specs.Leaves.{Ascend, AscendIn}

pub ascend_from : (low lower beyond : ℕ) (xs : List ℕ) → lower ≤ low → AscendIn low beyond xs → AscendIn lower beyond xs
ascend_from low lower beyond [] less is = omega (arith, less, is)
ascend_from low lower beyond (x ∷ xs) less (up, is) = (omega (arith, less, up), is)

pub ascend_on : (low beyond further : ℕ) (xs : List ℕ) → beyond ≤ further → AscendIn low beyond xs → AscendIn low further xs
ascend_on low beyond further [] more is = omega (arith, more, is)
ascend_on low beyond further (x ∷ xs) more (up, is) = (up, ascend_on (x + 1) beyond further xs more is)

pub ascend_bounds : (low beyond : ℕ) (xs : List ℕ) → AscendIn low beyond xs → low ≤ beyond
ascend_bounds low beyond [] is = is
ascend_bounds low beyond (x ∷ xs) (up, is) = let more = ascend_bounds (x + 1) beyond xs is in omega (arith, up, more)

pub ascend_follow : (low middle beyond : ℕ) (xs ys : List ℕ) → AscendIn low middle xs → AscendIn middle beyond ys → AscendIn low beyond (xs ++ ys)
ascend_follow low middle beyond [] ys one two = ascend_from middle low beyond ys one two
ascend_follow low middle beyond (x ∷ xs) ys (up, one) two = (up, ascend_follow (x + 1) middle beyond xs ys one two)

-- they ascend strictly
pub ascend_strictly : (k low beyond : ℕ) (xs : List ℕ) → k < low → AscendIn low beyond xs → Ascend k xs
ascend_strictly k low beyond [] under is = tt
ascend_strictly k low beyond (x ∷ xs) under (up, is) = (omega (arith, under, up), ascend_strictly x (x + 1) beyond xs (omega arith) is)

pub range_ascends : (k a n : ℕ) → k < a → Ascend k (range_with_len a n)
range_ascends k a zero under = tt
range_ascends k a (suc n) under = (under, range_ascends a (a + 1) n (omega arith))
