use Rattle.bdb_mktree.specs.of_text_format.Terms.{slice_seen}
use Rattle.bdb_settle.proofs.ErrorLemmas.{errors_more}
use Rattle.bdb_settle.proofs.errors.with_pairs.Goals as goal

pub loop-i-preserved : goal.loop-i-preserved
loop-i-preserved c =
    errors_more c.args.settings.now c.args.first c.loop-i.first c.with_pair-first.result (slice_seen c.args.pairs) c.loop-i.i _ c.loop-i.invariant c.at.ensures
    c.with_pair-first.ensures
