use Rattle.bdb_survey.specs.Links.{is_of_kind}
use Rattle.bdb_survey.proofs.WalkLemmas.{IsAt}
use Rattle.bdb_survey.proofs.links.row_extent.Given as goal

-- What is left of the row, with the length so far, is whole where the row is.
abbrev pub invariant-loop-turn : goal.invariant-loop-turn
invariant-loop-turn g l = IsAt l.pages (is_of_kind l.kind) l.head l.turn l.before l.page l.length l.steps l.fn.steps
