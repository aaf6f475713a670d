use denote.Text.{Utf8}
use denote.Shadow.{shadow}
use Rattle.bdb_real_tests.proofs.reals.ends.Given as goal

-- The key that is kept is text.
abbrev pub invariant-loop-value : goal.invariant-loop-value
invariant-loop-value l = shadow (Utf8 l.last)
