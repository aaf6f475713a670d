use Rattle.bdb_hash.proofs.FaultLemmas.{all_noted}
use Rattle.bdb_hash.proofs.contents.note_contents.Goals as goal

pub returns-clause-noted : goal.returns-clause-noted
returns-clause-noted g c =
    all_noted c.args.linked.now c.args.meta.now c.in_ok-has_stray.has_stray (g.F.FaultSink.has_noted c.args.found.now)
    (g.F.FaultSink.has_noted c.note_by_bucket.new.found) (g.F.FaultSink.has_noted c.note_strayed.new.found) c.note_by_bucket.ensures.table
    c.requires.meta c.in_ok-has_stray.ensures.stray c.in_ok-has_stray.ensures.noted c.in_ok-note_strayed.ensures.noted
