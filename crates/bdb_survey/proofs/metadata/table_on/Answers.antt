use Rattle.std.proofs.Common.{◌≤◌, ◌∙◌, ap, arith, sym, is_err}
use Rattle.bdb_law_sums.specs.of_format.Terms.{form_row_code}
use Rattle.bdb_law_sums.specs.of_image.Metas.{meta_in}
use Rattle.bdb_survey.proofs.MetaLemmas.{table_given, table_refused, with_meta}
use Rattle.bdb_survey.proofs.metadata.table_on.Goals as goal

pub returns-in-Ok-clause-meta : goal.returns-in-Ok-clause-meta
returns-in-Ok-clause-meta c =
    sym (ap meta_in
    (table_given form_row_code c.args.order c.args.last c.args.number c.args.page.now c.in-Ok.meta c.checked_table.result c.requires.size c.requires.number
    c.requires.form c.requires.table c.checked_table.ensures c.in-Ok.is).0)

pub returns-in-Ok-clause-few : goal.returns-in-Ok-clause-few
returns-in-Ok-clause-few c =
    let few : c.in-Ok.meta.max_bucket ≤ c.args.last =
    (table_given form_row_code c.args.order c.args.last c.args.number c.args.page.now c.in-Ok.meta c.checked_table.result c.requires.size c.requires.number
    c.requires.form c.requires.table c.checked_table.ensures c.in-Ok.is).1 in
    omega (arith, few, c.requires.last)

pub returns-in-Err-clause-meta : goal.returns-in-Err-clause-meta
returns-in-Err-clause-meta c =
    sym (ap meta_in (with_meta c.args.order c.args.last c.args.page.now
    (sym (table_refused form_row_code c.args.order c.args.last c.args.number c.args.page.now c.checked_table.result c.requires.number c.requires.table
    c.checked_table.ensures) ∙ ap is_err c.in-Err.is)))
