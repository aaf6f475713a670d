use Rattle.bdb_image.specs.of_format.Terms.{file_of}
use Rattle.bdb_graph.specs.Blanks.{ArePassed, IsAfter}
use Rattle.bdb_graph.proofs.blanks.pass_blanks.Given as goal

-- This page comes after the first one of those without data, and what is passed over has none.
pub record IsPassing (passed : Type 0) (after : Type 0) : Type 0 where
  pub all : passed
  pub here : after

abbrev pub invariant-loop-turn : goal.invariant-loop-turn
invariant-loop-turn l = IsPassing (ArePassed (file_of l.formed) l.nexts) (IsAfter (file_of l.formed) l.first l.page)
