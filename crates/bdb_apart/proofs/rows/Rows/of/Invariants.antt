use Rattle.bdb_apart.specs.Rows.{AreRows}
use Rattle.bdb_apart.proofs.rows.Rows.of.Given as goal

-- The pages from this one on are put.
abbrev pub invariant-pages : goal.invariant-pages
invariant-pages l = AreRows l.above.items l.first.items l.next.items l.left

abbrev pub decreases-pages : goal.decreases-pages
decreases-pages l = l.left
