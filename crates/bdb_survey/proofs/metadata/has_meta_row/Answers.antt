use Rattle.std.proofs.Common.{◌∙◌, sym}
use Rattle.bdb_law_sums.specs.of_format.Terms.{form_row_code}
use Rattle.bdb_survey.proofs.MetaLemmas.{table_refused, tree_refused}
use Rattle.bdb_survey.proofs.metadata.has_meta_row.Goals as goal

pub returns-in-HashMeta : goal.returns-in-HashMeta
returns-in-HashMeta c =
    c.is_err.ensures.value
    ∙ table_refused form_row_code c.args.order c.args.last c.args.number c.args.page.now c.checked_table.result c.requires.number
    (sym c.page_type.ensures ∙ c.in-HashMeta.is) c.checked_table.ensures

pub returns-in-BtreeMeta : goal.returns-in-BtreeMeta
returns-in-BtreeMeta c =
    c.is_err-in-BtreeMeta.ensures.value
    ∙ tree_refused form_row_code c.args.order c.args.last c.args.number c.args.page.now c.checked_btree.result c.requires.number
    (sym c.page_type.ensures ∙ c.in-BtreeMeta.is) c.checked_btree.ensures
