use Rattle.std.proofs.Common.{◌≡◌, arith, refl, subst}
use Rattle.bdb_image.specs.of_format.Terms.{file_of, ownership_rows}
use Rattle.bdb_image.specs.of_format.Verdict.{holding}
use Rattle.bdb_image.proofs.NotedLemmas.{none_noted, owners_noted, page_noted}
use Rattle.bdb_graph.specs.Owned.{AreFew}
use Rattle.bdb_graph.proofs.OwnedLemmas.{none_few, one_more_few}
use Rattle.bdb_graph.proofs.owned.note_owners.Goals as goal

pub loop-page-init : goal.loop-page-init
loop-page-init g c = record {
  rows = none_noted (g.F.FaultSink.has_noted c.args.found.now) 4 1 1 (λ p. holding (ownership_rows (file_of c.args.roles.now) p)) (omega arith);
  few = none_few (file_of c.args.roles.now) 1 refl;
}

pub loop-page-preserved : goal.loop-page-preserved
loop-page-preserved g c = record {
  rows =
      page_noted (g.F.FaultSink.has_noted c.args.found.now) (g.F.FaultSink.has_noted c.loop-page.found) (g.F.FaultSink.has_noted c.note_owned.new.found) 4 1
      c.loop-page.page (λ p. holding (ownership_rows (file_of c.args.roles.now) p)) (omega arith) c.loop-page.invariant.rows c.in_ok-note_owned.ensures.noted;
  few = one_more_few (file_of c.args.roles.now) c.loop-page.page c.loop-page.invariant.few c.in_ok-note_owned.ensures.few;
}

pub returns-clause-noted : goal.returns-clause-noted
returns-clause-noted g c =
    let last : c.head-page-end.result.last ≡ (file_of c.args.roles.now).last =
    c.head-page-end.ensures.last in
    owners_noted (g.F.FaultSink.has_noted c.args.found.now) (g.F.FaultSink.has_noted c.loop-page.found) (file_of c.args.roles.now) c.loop-page.page
    (omega (arith, last)) c.loop-page.invariant.rows

pub returns-clause-few : goal.returns-clause-few
returns-clause-few g c =
    let last : c.head-page-end.result.last ≡ (file_of c.args.roles.now).last =
    c.head-page-end.ensures.last in
    subst (AreFew (file_of c.args.roles.now)) (omega (arith, last)) c.loop-page.invariant.few
