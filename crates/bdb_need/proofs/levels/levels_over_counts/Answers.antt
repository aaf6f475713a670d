use Rattle.std.proofs.Common.{arith, ◌/◌}
use Rattle.bdb_need.proofs.LevelLemmas.{counts_end, counts_few, counts_next, fewer}
use Rattle.bdb_need.proofs.levels.levels_over_counts.Goals as goal

pub overflow_add-total : goal.overflow_add-total
overflow_add-total c =
    let few = counts_few _ _ _ _ c.requires.room
    (counts_next c.args.room c.args.pages c.loop-below.total c.loop-below.below c.requires.room c.loop-below-test.true c.loop-below.invariant) in
    omega (arith, few, c.requires.few)

pub loop-below-smaller : goal.loop-below-smaller
loop-below-smaller c = fewer c.loop-below.below (c.args.room / 10) (omega (arith, c.requires.room)) c.loop-below-test.true

pub loop-below-preserved : goal.loop-below-preserved
loop-below-preserved c =
    counts_next c.args.room c.args.pages c.loop-below.total c.loop-below.below c.requires.room c.loop-below-test.true c.loop-below.invariant

pub returns-clause-pages : goal.returns-clause-pages
returns-clause-pages c = counts_end c.args.room c.args.pages c.loop-below.total c.loop-below.below c.loop-below-test.false c.loop-below.invariant

pub returns-clause-few : goal.returns-clause-few
returns-clause-few c = counts_few c.args.room c.args.pages c.loop-below.total c.loop-below.below c.requires.room c.loop-below.invariant
