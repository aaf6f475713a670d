use Rattle.std.proofs.Common.{◌++◌, ◌∷◌, [], ℕ, List, arith, ap, length, length-append, subst, sym, ◌∙◌}
use Rattle.std.proofs.lemmas.List.{append_assoc}
use Rattle.bdb_apart.specs.of_rescue.Kept.{Reading, file_in}
use Rattle.bdb_damage.specs.Tallies.{IsBounded, tally_on}
use Rattle.bdb_damage.proofs.RoomLemmas.{row_few}
use Rattle.bdb_damage.proofs.StepLemmas.{list_more}
use Rattle.bdb_damage.proofs.counts.tally_of.Goals as goal

pub overflow_add-count : goal.overflow_add-count
overflow_add-count c =
    let reading : Reading = c.args.database.now.reading in
    let bounded : IsBounded reading = subst IsBounded c.apart-apart.ensures c.page_count-pages.ensures.bounded in
    omega (
      arith,
      c.loop-page.invariant.few,
      c.tally_on-count.ensures.few,
      ap (λ (xs : List ℕ). length xs) c.loop-page.invariant.all,
      length-append c.loop-page.yielded c.loop-page.page-iterator,
      row_few reading c.args.database.now.db.meta,
      bounded.few,
    )

-- One page more.
pub loop-page-preserved : goal.loop-page-preserved
loop-page-preserved c = record {
  counted = omega (
    arith,
    c.loop-page.invariant.counted,
    c.tally_on-count.ensures.count,
    ap (λ (r : Reading). tally_on c.args.tally (file_in r) c.holds-holds.result c.in-Some.page) c.apart-apart.ensures,
    list_more (λ (p : ℕ). tally_on c.args.tally (file_in c.args.database.now.reading) c.holds-holds.result p) c.loop-page.yielded c.in-Some.page,
  );
  few = omega (arith, c.loop-page.invariant.few, c.tally_on-count.ensures.few, length-append c.loop-page.yielded (c.in-Some.page ∷ []));
  all =
      append_assoc c.loop-page.yielded (c.in-Some.page ∷ []) c.next.new.self
      ∙ (ap (λ xs. c.loop-page.yielded ++ xs) (sym c.in-Some.ensures.steps) ∙ c.loop-page.invariant.all);
}
