use Rattle.std.proofs.Common.{◌∙◌, ap, sym, is_err}
use Rattle.bdb_law_sums.specs.of_format.Terms.{form_row_code}
use Rattle.bdb_law_sums.specs.of_image.Metas.{meta_in}
use Rattle.bdb_survey.proofs.MetaLemmas.{tree_given, tree_refused, with_meta}
use Rattle.bdb_survey.proofs.metadata.tree_on.Goals as goal

pub returns-in-Ok-clause-meta : goal.returns-in-Ok-clause-meta
returns-in-Ok-clause-meta c = λ last.
    sym (ap meta_in
    (tree_given form_row_code c.args.order last c.args.number c.args.page.now c.in-Ok.meta c.checked_btree.result c.requires.size c.requires.number
    c.requires.form c.requires.tree c.checked_btree.ensures c.in-Ok.is))

pub returns-in-Err-clause-meta : goal.returns-in-Err-clause-meta
returns-in-Err-clause-meta c = λ last.
    sym (ap meta_in (with_meta c.args.order last c.args.page.now
    (sym (tree_refused form_row_code c.args.order last c.args.number c.args.page.now c.checked_btree.result c.requires.number c.requires.tree
    c.checked_btree.ensures) ∙ ap is_err c.in-Err.is)))
