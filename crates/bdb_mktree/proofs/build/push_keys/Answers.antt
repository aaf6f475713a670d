use Rattle.bdb_mktree.proofs.PushedLemmas.{can_push, pushed_next}
use Rattle.bdb_mktree.proofs.build.push_keys.Goals as goal

pub push-requires-clause-suits : goal.push-requires-clause-suits
push-requires-clause-suits c = (can_push _ _ _ _ _ _ _ _ c.loop-start.invariant.1 c.run_at-run.ensures.units).0

pub push-requires-clause-next : goal.push-requires-clause-next
push-requires-clause-next c = (can_push _ _ _ _ _ _ _ _ c.loop-start.invariant.1 c.run_at-run.ensures.units).1

pub push-requires-clause-short : goal.push-requires-clause-short
push-requires-clause-short c = (can_push _ _ _ _ _ _ _ _ c.loop-start.invariant.1 c.run_at-run.ensures.units).2

pub loop-start-preserved : goal.loop-start-preserved
loop-start-preserved c = (
  c.run_at-run.ensures.within,
  pushed_next _ _ _ _ _ _ _ _ _ _ c.loop-start.invariant.1 c.run_at-run.ensures.units c.in_ok-push.ensures.building c.in_ok-push.ensures.units
      c.in_ok-push.ensures.settings c.in_ok-push.ensures.first c.in_ok-push.ensures.kept,
)
