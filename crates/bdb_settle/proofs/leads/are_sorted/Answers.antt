use Rattle.std.proofs.Common.{◌∙◌, sym, arith}
use Rattle.bdb_settle.proofs.LedLemmas.{sorted_step}
use Rattle.bdb_settle.proofs.leads.are_sorted.Goals as goal

pub loop-i-preserved : goal.loop-i-preserved
loop-i-preserved c =
    sorted_step c.args.settings.now c.args.bytes.now c.args.places.now c.loop-i.i _ _ c.loop-i.invariant (omega arith) (omega (arith, c.loop-i-test.true))
    (sym c.stands_before.ensures ∙ c.if-stands_before.false)
