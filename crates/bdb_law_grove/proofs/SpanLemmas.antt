-- Groves of pages that follow each other.
use Rattle.std.proofs.Common.{◌≡◌, ℕ, ◌≤◌, true, arith, ◌||◌}
use Rattle.std.proofs.lemmas.Bool.{cases_lt, or_left, or_right, or_cases}
use Rattle.bdb_format.proofs.MemberLemmas.{no_member}
use Rattle.bdb_law_grove.specs.Part.{between}
use Rattle.bdb_law_grove.specs.Standing.{GrovesFollow, NoPagesStand}
use Rattle.bdb_law_grove.proofs.BesideLemmas.{stand_together}
use Rattle.bdb_law_grove.proofs.ChainLemmas.{between_is, is_between, same_test}

-- neighbouring spans
pub between_parts : (a b c q : ℕ) → a ≤ b → b ≤ c → between a c q ≡ (between a b q || between b c q)
between_parts a b c q low high = grind (arith, same_test, between_is, cases_lt, or_left, is_between, or_right, or_cases)

pub groves_follow : GrovesFollow
groves_follow g a b c es fs low high first second = grind (arith, stand_together, between_parts, between_is)

pub none_between : (a p : ℕ) → between a a p ≡ true → ⊥
none_between a p is = let within = between_is a a p is in omega (arith, within.0, within.1)

pub no_pages_stand : NoPagesStand
no_pages_stand g a = grind (arith, none_between, no_member)
