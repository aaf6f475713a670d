use Rattle.std.proofs.Common.{◌≡◌, ◌∙◌, [], ◌++◌, ap, arith, map, refl, subst}
use Rattle.std.proofs.lemmas.Grind.{common_steps}
use Rattle.bdb_image.specs.of_format.Terms.{file_of, fit_code, refs}
use Rattle.bdb_image.specs.Noted.{more_misfits}
use Rattle.bdb_graph.specs.Tallies.{AreTallies, owner}
use Rattle.bdb_graph.specs.Walked.{AreKinds}
use Rattle.bdb_image.proofs.NotedLemmas.{one_more_misfit}
use Rattle.bdb_graph.proofs.RunLemmas.{kinds_of_table, known_kept}
use Rattle.bdb_graph.proofs.TableLemmas.{all_read, owners_parts}
use Rattle.bdb_graph.proofs.tally.tally_page.Goals as goal

-- One more reference is noted, and counts by its own code.
pub loop-reference-preserved : goal.loop-reference-preserved
loop-reference-preserved g c = record {
  parts = record {
    others = c.loop-reference.invariant.parts.others;
    apart = c.loop-reference.invariant.parts.apart;
    list = grind (arith, common_steps, c.loop-reference.invariant.parts.list);
  };
  tallied = λ os start. grind (arith, common_steps, c.note.ensures.tallies _ (c.loop-reference.invariant.tallied os start));
  known = known_kept _ _ _ _ c.note.auto.tallies c.note.ensures.full c.loop-reference.invariant.known;
  kinds = λ os start. grind (arith, common_steps, c.with.ensures _ (owner c.args.holder c.in-Some.reference) refl (c.loop-reference.invariant.kinds os start));
  misfits =
      c.with-misfits.ensures
      ∙ (ap (λ code. more_misfits c.loop-reference.misfits code) c.misfit.ensures
      ∙ (ap (λ misfits. more_misfits misfits (fit_code (file_of c.args.formed.now) c.args.holder c.in-Some.reference)) c.loop-reference.invariant.misfits
      ∙ one_more_misfit (fit_code (file_of c.args.formed.now) c.args.holder) c.loop-reference.yielded c.in-Some.reference));
  steps = search;
}

-- The buckets of a table aren't heads of chains or roots of sets.
pub returns-clause-kinds : goal.returns-clause-kinds
returns-clause-kinds g c = λ os are.
    let none : c.loop-reference.reference-iterator ≡ [] = grind (arith, common_steps) in
    let parts =
    all_read (refs (file_of c.args.formed.now) c.args.holder) c.loop-reference.yielded c.loop-reference.reference-iterator
    c.apart-others.result.1 none c.loop-reference.invariant.parts in
    subst (AreKinds c.loop-reference.kinds)
    (owners_parts os c.args.holder (refs (file_of c.args.formed.now) c.args.holder) c.loop-reference.yielded _ parts.all)
    (kinds_of_table c.loop-reference.kinds (os ++ map (owner c.args.holder) c.loop-reference.yielded) c.args.holder parts.place c.apart-others.result.1
    (c.loop-reference.invariant.kinds os are))

-- Those of a table stand behind the others.
pub returns-clause-tallies : goal.returns-clause-tallies
returns-clause-tallies g c = λ os are.
    let none : c.loop-reference.reference-iterator ≡ [] = grind (arith, common_steps) in
    let parts =
    all_read (refs (file_of c.args.formed.now) c.args.holder) c.loop-reference.yielded c.loop-reference.reference-iterator
    c.apart-others.result.1 none c.loop-reference.invariant.parts in
    subst (AreTallies c.tally_table.new.tallies)
    (owners_parts os c.args.holder (refs (file_of c.args.formed.now) c.args.holder) c.loop-reference.yielded _ parts.all)
    (c.in_ok-of_table.ensures.tallies (os ++ map (owner c.args.holder) c.loop-reference.yielded) parts.place (c.loop-reference.invariant.tallied os are))
