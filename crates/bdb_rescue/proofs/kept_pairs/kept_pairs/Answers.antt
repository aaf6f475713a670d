use Rattle.std.proofs.Common.{arith}
use Rattle.bdb_rescue.specs.Kept.{kept_on, kept_pairs}
use Rattle.bdb_rescue.proofs.kept_pairs.kept_pairs.Goals as goal

-- One page more.
pub loop-page-preserved : goal.loop-page-preserved
loop-page-preserved c =
    c.in_ok-end_page.ensures (kept_on c.args.survey.now) c.loop-page.page c.loop-page.kept.all.items c.loop-page.invariant c.in_ok-keep_page.ensures

pub returns : goal.returns
unfolding kept_pairs
returns c = grind (arith)
