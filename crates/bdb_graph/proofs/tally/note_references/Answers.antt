use Rattle.std.proofs.Common.{◌≡◌, ◌+◌, ◌∙◌, length, arith, ap, sym, subst}
use Rattle.bdb_image.proofs.NotedLemmas.{misfits_noted, page_noted, references_noted}
use Rattle.bdb_graph.proofs.TallyLemmas.{held_more, kinds_all, tallied_all, tallied_more, written_back}
use Rattle.bdb_graph.specs.Walked.{AreKinds}
use Rattle.bdb_image.specs.of_format.Terms.{file_of, reference_rows}
use Rattle.bdb_image.specs.of_format.Verdict.{holding}
use Rattle.bdb_graph.proofs.tally.note_references.Goals as goal

-- The references of this page are added to those of the pages before it, and fit.
pub loop-page-preserved : goal.loop-page-preserved
loop-page-preserved g c =
    let len : length c.tally_page.new.tallies ≡ c.loop-page.tallies.len = c.tally_page.auto.tallies
    ∙ (ap length c.deref_mut.ensures.value ∙ sym c.loop-page.tallies.ok.0) in
    let back = written_back c.loop-page.tallies.len c.tally_page.new.tallies c.loop-page.tallies.items len (sym c.loop-page.tallies.ok.0) in
    rw back
    record {
      len = c.tally_page.auto.tallies ∙ (ap length c.deref_mut.ensures.value ∙ c.loop-page.invariant.len);
      all =
          tallied_more (file_of c.args.formed.now) c.loop-page.page c.tally_page.new.tallies
          (c.in_ok-misfits.ensures.tallies _ (rw c.deref_mut.ensures.value c.loop-page.invariant.all));
      known = c.in_ok-misfits.ensures.known;
      kinds =
          subst (AreKinds c.tally_page.new.kinds) (sym (held_more (file_of c.args.formed.now) c.loop-page.page))
          (c.in_ok-misfits.ensures.kinds _ c.loop-page.invariant.kinds);
      faults =
          page_noted (g.F.FaultSink.has_noted c.args.found.now) (g.F.FaultSink.has_noted c.loop-page.found) (g.F.FaultSink.has_noted c.note.new.found) 3 0
          c.loop-page.page (λ p. holding (reference_rows (file_of c.args.formed.now) p)) (omega arith) c.loop-page.invariant.faults
          (misfits_noted (g.F.FaultSink.has_noted c.loop-page.found) (g.F.FaultSink.has_noted c.note.new.found) (file_of c.args.formed.now) c.loop-page.page
          c.in_ok-misfits.misfits c.in_ok-misfits.ensures.misfits c.in_ok-note.ensures.noted);
      steps = omega (arith, c.tally_page.ensures.cost);
    }

-- The last page is passed.
pub returns-clause-tallies : goal.returns-clause-tallies
returns-clause-tallies g c =
    let last : c.head-pages.result.last ≡ (file_of c.args.formed.now).last = c.head-pages.ensures.last in
    let all : c.loop-page.page ≡ (file_of c.args.formed.now).last + 1 = omega arith in
    tallied_all (file_of c.args.formed.now) c.loop-page.page c.loop-page.tallies.items all (omega (arith, c.loop-page.invariant.len)) c.loop-page.invariant.all

pub returns-clause-kinds : goal.returns-clause-kinds
returns-clause-kinds g c =
    let last : c.head-pages.result.last ≡ (file_of c.args.formed.now).last = c.head-pages.ensures.last in
    kinds_all (file_of c.args.formed.now) c.loop-page.page c.loop-page.kinds (omega (arith, last)) c.loop-page.invariant.kinds

pub returns-clause-noted : goal.returns-clause-noted
returns-clause-noted g c =
    let last : c.head-pages.result.last ≡ (file_of c.args.formed.now).last = c.head-pages.ensures.last in
    references_noted (g.F.FaultSink.has_noted c.args.found.now) (g.F.FaultSink.has_noted c.loop-page.found) (file_of c.args.formed.now) c.loop-page.page
    (omega (arith, last)) c.loop-page.invariant.faults
