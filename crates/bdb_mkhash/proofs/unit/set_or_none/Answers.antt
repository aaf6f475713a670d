use Rattle.std.proofs.Common.{arith, refl}
use Rattle.bdb_mktree.specs.of_places.Places.{values_seen}
use Rattle.bdb_mkhash.proofs.CostLemmas.{set_long, set_more, set_much}
use Rattle.bdb_mkhash.proofs.unit.set_or_none.Goals as goal

pub returns-then-len-size : goal.returns-then-len-size
returns-then-len-size c =
    set_long c.args.size (values_seen c.args.values) c.loop-i.i c.at-len.result.now _ (omega arith) c.at-len.ensures refl c.if-len-size.true

pub returns-then-cost-most : goal.returns-then-cost-most
returns-then-cost-most c =
    set_much c.args.size (values_seen c.args.values) c.loop-i.i c.loop-i.cost c.at-len.result.now _ c.loop-i.invariant (omega arith) c.at-len.ensures refl
    c.if-cost-most.true

pub loop-i-preserved : goal.loop-i-preserved
loop-i-preserved c =
    set_more c.args.size (values_seen c.args.values) c.loop-i.i c.loop-i.cost c.at-len.result.now _ c.loop-i.invariant (omega arith) c.at-len.ensures refl
    c.if-len-size.false c.if-cost-most.false
