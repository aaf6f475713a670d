use Rattle.bdb_survey.proofs.WayLemmas.{IsOnWay}
use Rattle.bdb_survey.proofs.survey.Survey.set_start.Given as goal

-- What is left of the way ends where the way does.
abbrev pub invariant-loop-level : goal.invariant-loop-level
invariant-loop-level l = IsOnWay l.self l.root l._level l.page
