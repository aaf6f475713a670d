-- A value that is read from its front, and how two of them compare. Source: docs/FORMAT.md, "Order of keys".
use Rattle.std.specs.Prelude.{ℕ, List, ◌++◌}
use Rattle.std.specs.declared.cmp.Ordering.{Ordering}
use Rattle.bdb_graph.specs.of_layout.Seen.{OrderingIs}
use Rattle.bdb_graph.specs.of_format.Terms.{joined}
use Rattle.bdb_overflow.specs.declared.run.Remainder.{Remainder}

-- the bytes that are left
abbrev pub run_seen : Remainder → List ℕ
run_seen run = run.front.now ++ joined run.rest

-- the order of two lists is that of two others
pub record HaveOrderOf (a b c d : List ℕ) : Type 0 where
  pub order : (answer : Ordering) → OrderingIs answer a b → OrderingIs answer c d
