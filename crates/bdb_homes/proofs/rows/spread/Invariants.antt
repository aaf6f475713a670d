use Rattle.std.proofs.Common.{◌≡◌, ◌≤◌, length}
use Rattle.bdb_survey.specs.of_format.Terms.{File}
use Rattle.bdb_homes.proofs.WalkLemmas.{Spreads}
use Rattle.bdb_homes.specs.Faces.{AreFaces}
use Rattle.bdb_homes.specs.Spreading.{home_at}
use Rattle.bdb_homes.proofs.rows.spread.Given as goal

-- All that follows from the pages below this one has been given.
pub record IsSpread (spreads : Type 0) (same : Type 0) : Type 0 where
  pub all : spreads
  pub len : same

abbrev pub invariant-loop-page : goal.invariant-loop-page
invariant-loop-page l =
    IsSpread ((file : File) → AreFaces file l.faces → Spreads (home_at l.fn.homes) l.from file l.homes (λ p. l.page ≤ p)) (length l.homes ≡ length l.faces)
