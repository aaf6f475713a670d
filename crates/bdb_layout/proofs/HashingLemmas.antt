-- The group of a bucket is the least that is enough.
use Rattle.std.proofs.lemmas.Bool.{cases_lt}
use Rattle.bdb_format.proofs.GroupLemmas.{least_passing, first_passes}
use Rattle.std.proofs.Common.{◌≡◌, ℕ, ◌+◌, ◌*◌, ◌^◌, ◌<◌, ◌≤◌, suc, refl, arith, inl, inr, nat_lt}
use borrow.Author.Tests.{ltb-true}
use Rattle.std.proofs.Math.Nat.{le_antisymm, pow-succ'}
use Rattle.std.proofs.Math.Pow.{pow_mono}
use Rattle.std.proofs.lemmas.Bool.Decides.{nat_tests}
use Rattle.bdb_format.specs.Terms.{group}

pub group-le : (bucket g : ℕ) → g < 33 → bucket < 2 ^ g → group bucket ≤ g
unfolding group
group-le bucket g in_range below = least_passing (λ n. nat_lt bucket (2 ^ n)) 0 33 33 g refl (omega arith) (grind (arith, nat_tests))

pub below_group : (bucket g : ℕ) → g < 33 → bucket < 2 ^ g → bucket < 2 ^ group bucket
unfolding group
below_group bucket g in_range below =
    ltb-true bucket _ (first_passes (λ n. nat_lt bucket (2 ^ n)) 0 33 33 g (omega arith) (omega arith) (grind (arith, nat_tests)))

not_smaller : (bucket g m : ℕ) → bucket < 2 ^ g → 2 ^ m ≤ 2 * bucket + 1 → m ≤ g
not_smaller bucket g m above most =
    elim (cases_lt g m) [
      | inl less ↦ let double : 2 ^ suc g ≤ 2 ^ m = pow_mono (omega arith) in absurd (omega (arith, pow-succ' 2 g))
      | inr low ↦ low
    ]

-- the count of a bucket's binary digits is its group
pub group-is : (bucket m : ℕ) → m < 33 → bucket < 2 ^ m → 2 ^ m ≤ 2 * bucket + 1 → group bucket ≡ m
group-is bucket m in_range below most =
    let g : ℕ = group bucket in
    let at_most : g ≤ m = group-le bucket m in_range below in
    let above : bucket < 2 ^ g = below_group bucket m in_range below in
    le_antisymm at_most (not_smaller bucket g m above most)
