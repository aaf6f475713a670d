use Rattle.std.proofs.Common.{◌+◌, ◌≤◌}
use Rattle.bdb_homes.proofs.ClaimLemmas.{claims_below}
use Rattle.bdb_homes.specs.Leaps.{HasLeaps}
use Rattle.bdb_homes.specs.Ups.{AreUps}
use Rattle.bdb_homes.proofs.claims.note_pages.Given as goal

-- The claims of the pages below this one are noted, in a step for each.
pub record AreNoted (noted : Type 0) (leaps : Type 0) (few : Type 0) : Type 0 where
  pub ups : noted
  pub has : leaps
  pub cost : few

abbrev pub invariant-loop-page : goal.invariant-loop-page
invariant-loop-page g l =
    AreNoted (AreUps l.pages l.ups (claims_below l.pages l.page)) (HasLeaps l.faces l.ups l.leaps) (l.steps ≤ l.fn.steps + l.page)
