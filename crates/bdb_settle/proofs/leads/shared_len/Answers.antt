use Rattle.bdb_settle.proofs.LedLemmas.{shared_step}
use Rattle.bdb_settle.proofs.leads.shared_len.Goals as goal

pub loop-place-preserved : goal.loop-place-preserved
loop-place-preserved c = (
  shared_step c.args.bytes.now c.loop-place.start.now c.shared_on-start.result.now c.args.places.now c.loop-place.place-index _ c.loop-place.invariant.0
      c.loop-place-test.true c.shared_on-start.ensures.begins c.shared_on-start.ensures.first,
  c.shared_on-start.ensures.begins,
)
