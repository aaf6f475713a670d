use Rattle.std.proofs.Common.{◌≡◌, ◌∙◌, ap, arith, length, sym}
use Rattle.bdb_image.proofs.of_faults.SinkLemmas.{notes_none}
use Rattle.bdb_image.specs.of_format.Terms.{file_of, reach_rows}
use Rattle.bdb_image.specs.of_format.Verdict.{holding}
use Rattle.bdb_graph.proofs.MarkLemmas.{none_marked}
use Rattle.bdb_image.proofs.NotedLemmas.{page_noted, reach_noted, reached_noted}
use Rattle.bdb_graph.proofs.TallyLemmas.{written_back}
use Rattle.bdb_graph.proofs.reach.note_reach.Goals as goal

-- No page is passed, and none is marked.
pub loop-page-init : goal.loop-page-init
loop-page-init g c = record {
  faults = notes_none (g.F.FaultSink.has_noted c.args.found.now);
  settled = rw (c.in_ok-marks.ensures.items_if_clones_equal (λ y same. same)) (none_marked (file_of c.args.roles.now) _);
  len = omega (arith, c.in_ok-marks.ensures.len, c.head.ensures.last);
}

pub loop-page-preserved : goal.loop-page-preserved
loop-page-preserved g c =
    let len : length c.reaches-reached.new.marks ≡ c.loop-page.marks.len = c.reaches-reached.auto.marks
    ∙ (ap length c.deref_mut.ensures.value ∙ sym c.loop-page.marks.ok.0) in
    let back = written_back c.loop-page.marks.len c.reaches-reached.new.marks c.loop-page.marks.items len (sym c.loop-page.marks.ok.0) in
    rw back
    record {
      faults =
          page_noted (g.F.FaultSink.has_noted c.args.found.now) (g.F.FaultSink.has_noted c.loop-page.found) (g.F.FaultSink.has_noted c.note_if.new.found) 5 1
          c.loop-page.page (λ p. holding (reach_rows (file_of c.args.roles.now) p)) (omega arith) c.loop-page.invariant.faults
          (reached_noted (g.F.FaultSink.has_noted c.loop-page.found) (g.F.FaultSink.has_noted c.note_if.new.found) (file_of c.args.roles.now) c.loop-page.page
          c.reaches-reached.result c.reaches-reached.ensures.reach c.in_ok-note_if.ensures.noted);
      settled = c.reaches-reached.ensures.settled;
      len = c.reaches-reached.auto.marks ∙ (ap length c.deref_mut.ensures.value ∙ c.loop-page.invariant.len);
    }

pub returns : goal.returns
returns g c =
    let last : c.head-page-end.result.last ≡ (file_of c.args.roles.now).last =
    c.head-page-end.ensures.last in
    reach_noted (g.F.FaultSink.has_noted c.args.found.now) (g.F.FaultSink.has_noted c.loop-page.found) (file_of c.args.roles.now) c.loop-page.page
    (omega (arith, last)) c.loop-page.invariant.faults
