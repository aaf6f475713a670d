use Rattle.bdb_graph.proofs.LeapLemmas.{opened_more}
use Rattle.bdb_graph.proofs.leaps.first_open.Goals as goal

pub loop-at-preserved : goal.loop-at-preserved
loop-at-preserved c = opened_more _ _ _ _ c.loop-at.invariant
