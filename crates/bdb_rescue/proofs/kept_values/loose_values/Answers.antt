use Rattle.std.proofs.Common.{◌<◌, ◌++◌, [], cond, ◌∙◌, ap, append-nil, arith, subst, sym}
use Rattle.bdb_text_format.specs.of_format.Terms.{File}
use Rattle.bdb_rescue.specs.Kept.{IsTable, loose_values, untaken_on, values_on}
use Rattle.bdb_rescue.specs.declared.kept.KeptValue.{KeptValue}
use Rattle.bdb_rescue.specs.declared.tables.Table.{Table}
use Rattle.bdb_survey.specs.Salvage.{is_taken}
use Rattle.bdb_rescue.proofs.kept_values.loose_values.Goals as goal
use Rattle.bdb_rescue.proofs.kept_values.loose_values.Goals.{then-not-is_marked+in_ok-keep_leaf, else-not-is_marked}

-- One page more: nothing of it where it's taken.
pub loop-page-preserved : goal.loop-page-preserved
unfolding is_taken
loop-page-preserved c =
    let file : File = c.args.survey.now in
    let there : c.loop-page.page < file.count = omega (arith, c.loop-page-test.true, c.count-page-end.ensures.count, ap (λ (f : File). f.count) c.pages.ensures)
    in
    let marked = c.is_marked.ensures ∙ c.requires.at c.loop-page.page there in
    elim c.if-not-is_marked.branch [
      | then-not-is_marked+in_ok-keep_leaf w ↦
          c.in_ok-end_page.ensures (untaken_on file) c.loop-page.page c.loop-page.kept.all.items
          (subst (λ (t : Table KeptValue). IsTable (untaken_on file) c.loop-page.page t.bounds.items c.loop-page.kept.all.items) (sym w.kept-is)
          c.loop-page.invariant)
          (ap (λ (t : Table KeptValue). t.all.items) w.kept-is
          ∙ (w.in_ok-keep_leaf.ensures
          ∙ ap (λ b. c.loop-page.kept.all.items ++ cond b [] (values_on file c.loop-page.page)) (sym w.if-not-is_marked.true ∙ marked)))
      | else-not-is_marked w ↦
          c.in_ok-end_page.ensures (untaken_on file) c.loop-page.page c.loop-page.kept.all.items
          (subst (λ (t : Table KeptValue). IsTable (untaken_on file) c.loop-page.page t.bounds.items c.loop-page.kept.all.items) (sym w.kept-is)
          c.loop-page.invariant)
          (ap (λ (t : Table KeptValue). t.all.items) w.kept-is
          ∙ (sym (append-nil c.loop-page.kept.all.items)
          ∙ ap (λ b. c.loop-page.kept.all.items ++ cond b [] (values_on file c.loop-page.page)) (sym w.if-not-is_marked.false ∙ marked)))
    ]

pub returns : goal.returns
unfolding loose_values
returns c = grind (arith)
