use Rattle.std.proofs.Common.{◌≡◌, ℕ, ◌<◌, None, get_or, length}
use Rattle.bdb_survey.specs.of_format.Terms.{File}
use Rattle.bdb_homes.specs.Homes.{own_home}
use Rattle.bdb_homes.specs.Ups.{AreUpsOf}
use Rattle.bdb_homes.proofs.homes.own_homes.Given as goal

-- The pages below this one have theirs.
pub record AreOwn (same : Type 0) (own : Type 0) : Type 0 where
  pub len : same
  pub each : own

abbrev pub invariant-loop-page : goal.invariant-loop-page
invariant-loop-page l =
    AreOwn (length l.homes.items ≡ l.page)
    ((file : File) (p : ℕ) → AreUpsOf file l.ups → p < l.page → get_or l.homes.items p None ≡ own_home file p)
