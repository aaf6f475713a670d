use Rattle.std.proofs.Common.{◌++◌, ◌<◌, [], cond, arith, ◌∙◌, ap}
use Rattle.std.specs.List.{flat_map}
use Rattle.bdb_text_format.specs.of_format.Terms.{File, chain}
use Rattle.bdb_rescue.specs.Kept.{set_from, values_on}
use Rattle.bdb_rescue.proofs.sets.set_table.Goals as goal

-- One page more.
pub loop-page-preserved : goal.loop-page-preserved
loop-page-preserved c =
    let file : File = c.args.survey.now in
    let there : c.loop-page.page < file.count = omega (arith, c.loop-page-test.true, c.count-page-end.ensures.count, ap (λ (f : File). f.count) c.pages.ensures)
    in
    c.in_ok-end_page.ensures (set_from file) c.loop-page.page c.loop-page.sets.all.items c.loop-page.invariant
    (c.in_ok-keep_started.ensures
    ∙ ap (λ b. c.loop-page.sets.all.items ++ cond b (flat_map (values_on file) (chain file c.loop-page.page)) [])
    (c.is_marked.ensures ∙ c.requires.at c.loop-page.page there))
