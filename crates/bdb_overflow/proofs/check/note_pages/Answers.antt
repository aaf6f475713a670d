use Rattle.std.proofs.Common.{◌≡◌, ◌+◌, arith}
use Rattle.bdb_graph.specs.of_format.Terms.{file_of}
use Rattle.bdb_overflow.proofs.ChainLemmas.{all_below, one_below}
use Rattle.bdb_overflow.proofs.check.note_pages.Goals as goal

pub note_page-requires-clause-there : goal.note_page-requires-clause-there
note_page-requires-clause-there g c =
    let last : c.head-last.result.last ≡ (file_of c.args.linked.now).last = c.head-last.ensures.last in
    omega (arith, last)

pub loop-page-preserved : goal.loop-page-preserved
loop-page-preserved g c =
    one_below (g.F.FaultSink.has_noted c.args.found.now) (g.F.FaultSink.has_noted c.loop-page.found) (g.F.FaultSink.has_noted c.note_page.new.found)
    (file_of c.args.linked.now) c.loop-page.page c.loop-page.invariant c.in_ok-note_page.ensures.noted

pub returns-in_ok-note_page-clause-noted : goal.returns-in_ok-note_page-clause-noted
returns-in_ok-note_page-clause-noted g c =
    let last : c.head-last.result.last ≡ (file_of c.args.linked.now).last = c.head-last.ensures.last in
    all_below (g.F.FaultSink.has_noted c.args.found.now) (g.F.FaultSink.has_noted c.note_page.new.found) (file_of c.args.linked.now)
    (c.loop-page.page + 1) (omega (arith, last))
    (one_below (g.F.FaultSink.has_noted c.args.found.now) (g.F.FaultSink.has_noted c.loop-page.found) (g.F.FaultSink.has_noted c.note_page.new.found)
    (file_of c.args.linked.now) c.loop-page.page c.loop-page.invariant c.in_ok-note_page.ensures.noted)
