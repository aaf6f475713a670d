use Rattle.std.proofs.Common.{arith, ◌-◌, ◌+◌, ◌≡◌, ◌++◌, ◌∙◌, ap, replicate}
use Rattle.bdb_mkhash.proofs.BucketLemmas.{spare_filled}
use Rattle.bdb_mkhash.proofs.build.spares_of.Goals as goal

pub loop-group-preserved : goal.loop-group-preserved
loop-group-preserved c = spare_filled c.loop-group.spares c.loop-group.group c.args.first c.loop-group.invariant (omega arith)

pub returns : goal.returns
returns c =
    let all : c.loop-group.group ≡ c.args.bits + 1 = omega arith in
    let e : 32 - (c.args.bits + 1) ≡ 31 - c.args.bits = omega arith in
    c.loop-group.invariant ∙ (ap (λ g. replicate g c.args.first ++ replicate (32 - g) 0) all
    ∙ ap (λ k. replicate (c.args.bits + 1) c.args.first ++ replicate k 0) e)
