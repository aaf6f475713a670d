use Rattle.bdb_apart.specs.of_format.Terms.{btree_fields, form_row_code, metadata_rows}
use Rattle.bdb_apart.specs.of_format.declared.metadata.FileKind.TheVariants.{Btree}
use Rattle.bdb_damage.proofs.WalkLemmas.{answer_none, answer_some}
use Rattle.bdb_damage.proofs.rows.btree_row.Goals as goal

pub returns-in-Ok : goal.returns-in-Ok
returns-in-Ok c =
    answer_none form_row_code (metadata_rows c.args.order c.args.page.now c.args.number 0 Btree) (btree_fields c.args.order c.args.page.now) _
    c.checked_btree.result
    c.checked_btree.ensures c.in-Ok.is

pub returns-in-Err : goal.returns-in-Err
returns-in-Err c =
    answer_some form_row_code (metadata_rows c.args.order c.args.page.now c.args.number 0 Btree) (btree_fields c.args.order c.args.page.now) _
    c.checked_btree.result
    c.checked_btree.ensures c.in-Err.is
