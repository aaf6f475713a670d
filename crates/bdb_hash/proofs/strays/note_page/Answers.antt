use Rattle.bdb_hash.proofs.KeptLemmas.{keeps_one}
use Rattle.bdb_hash.proofs.strays.note_page.Goals as goal

pub loop-pair-preserved : goal.loop-pair-preserved
loop-pair-preserved g c =
    keeps_one c.args.twice.now c.args.keys.now c.loop-pair.keys c.note_kept.new.keys c.args.known.now c.loop-pair.known c.note_kept.new.known
    (g.F.FaultSink.has_noted c.args.found.now) (g.F.FaultSink.has_noted c.loop-pair.found) (g.F.FaultSink.has_noted c.note_kept.new.found) c.args.page
    c.loop-pair.pair-iterator c.next.new.self c.in-Some.pair c.loop-pair.invariant c.in-Some.ensures.steps c.in_ok-note_kept.ensures.noted
    c.in_ok-note_kept.ensures.seen c.in_ok-note_kept.ensures.hashed

pub loop-pair-preserved-in_ok-note_kept : goal.loop-pair-preserved-in_ok-note_kept
loop-pair-preserved-in_ok-note_kept g c =
    keeps_one c.args.twice.now c.args.keys.now c.loop-pair.keys c.note_kept.new.keys c.args.known.now c.loop-pair.known c.note_kept.new.known
    (g.F.FaultSink.has_noted c.args.found.now) (g.F.FaultSink.has_noted c.loop-pair.found) (g.F.FaultSink.has_noted c.note_kept.new.found) c.args.page
    c.loop-pair.pair-iterator c.next.new.self c.in-Some.pair c.loop-pair.invariant c.in-Some.ensures.steps c.in_ok-note_kept.ensures.noted
    c.in_ok-note_kept.ensures.seen c.in_ok-note_kept.ensures.hashed
