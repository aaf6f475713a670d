use Rattle.std.proofs.Common.{◌∙◌}
use Rattle.bdb_mktree.specs.of_text_format.Terms.{slice_seen}
use Rattle.bdb_settle.proofs.FillingLemmas.{filled_more}
use Rattle.bdb_settle.proofs.filling.fill_pairs.Goals as goal

pub loop-i-preserved : goal.loop-i-preserved
loop-i-preserved c =
    c.in_ok-push_filled.ensures
    ∙ filled_more c.args.settings.now c.loop-i.all (slice_seen c.args.pairs) c.loop-i.i _ c.loop-i.invariant c.at.ensures
