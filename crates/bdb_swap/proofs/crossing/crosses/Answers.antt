use Rattle.bdb_swap.proofs.WalkLemmas.{all_walked, begins, begins_not, walked_next, walked_none}
use Rattle.bdb_swap.proofs.crossing.crosses.Goals as goal
use Rattle.bdb_swap.proofs.crossing.crosses.Goals.{then-end-ne0, else-end-ne0}

pub loop-place-init : goal.loop-place-init
loop-place-init c = walked_none c.args.ends.now c.args.noted.now.first c.args.noted.now.places c.requires

pub loop-place-preserved : goal.loop-place-preserved
loop-place-preserved c =
    walked_next c.args.ends.now c.loop-place.place c.loop-place.met c.from-end.result c.max-place.result c.if-end-ne0.met c.loop-place-test.true
    c.from-end.ensures
    (elim c.if-end-ne0.branch [
      | then-end-ne0 w ↦ begins c.if-end-ne0.met c.loop-place.met c.from-end.result w.if-end-ne0.true w.met-is
      | else-end-ne0 w ↦ begins_not c.if-end-ne0.met c.loop-place.met c.from-end.result w.if-end-ne0.false w.met-is
    ])
    c.max-place.ensures c.loop-place.invariant

pub returns : goal.returns
returns c = all_walked c.args.ends.now c.loop-place.place c.loop-place.met c.args.noted.now.first c.args.noted.now.places c.loop-place-test.false c.requires
    c.loop-place.invariant
