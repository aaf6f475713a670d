use Rattle.bdb_apart.specs.of_format.Terms.{queue_fields, form_row_code, metadata_rows}
use Rattle.bdb_apart.specs.of_format.declared.metadata.FileKind.TheVariants.{Queue}
use Rattle.bdb_damage.proofs.WalkLemmas.{answer_none, answer_some}
use Rattle.bdb_damage.proofs.rows.queue_meta_row.Goals as goal

pub returns-in-Ok : goal.returns-in-Ok
returns-in-Ok c =
    answer_none form_row_code (metadata_rows c.args.order c.args.page.now 0 0 Queue) (queue_fields c.args.order c.args.page.now) _ c.checked_queue.result
    c.checked_queue.ensures c.in-Ok.is

pub returns-in-Err : goal.returns-in-Err
returns-in-Err c =
    answer_some form_row_code (metadata_rows c.args.order c.args.page.now 0 0 Queue) (queue_fields c.args.order c.args.page.now) _ c.checked_queue.result
    c.checked_queue.ensures c.in-Err.is
