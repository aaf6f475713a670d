use Rattle.std.proofs.Common.{◌-◌}
use Rattle.bdb_graph.proofs.RunLemmas.{IsNoted}
use Rattle.bdb_graph.proofs.table.note_run.Given as goal

-- The pages below this one are noted.
abbrev pub invariant-pages : goal.invariant-pages
invariant-pages l = IsNoted l.fn.tallies l.tallies l.leaps l.holder l.fn.run.first l.fn.run.len l.at

abbrev pub decreases-pages : goal.decreases-pages
decreases-pages l = l.end - l.at
