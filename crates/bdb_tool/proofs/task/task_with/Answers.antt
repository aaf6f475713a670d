use Rattle.bdb_tool.proofs.TaskLemmas.{asked_unread, reading_unread, repair_unread, salvage_unread, survey_unread, text_unread}
use Rattle.bdb_tool.proofs.task.task_with.Goals as goal

pub returns-in-Err-clause-task : goal.returns-in-Err-clause-task
returns-in-Err-clause-task g c =
    λ words seen. reading_unread words _ c.args.command.limit c.in-Read.rows c.in-Read.reading c.in-Err.stop (rw c.in-Read.is at seen) c.in-Err.ensures

pub returns-in-Err-input_of-clause-task : goal.returns-in-Err-input_of-clause-task
returns-in-Err-input_of-clause-task g c =
    λ words seen. asked_unread words _ c.args.command.limit c.in-Ask.request c.in-Err-input_of.stop (rw c.in-Ask.is at seen) c.in-Err-input_of.ensures

pub returns-in-Err-input_of-2-clause-task : goal.returns-in-Err-input_of-2-clause-task
returns-in-Err-input_of-2-clause-task g c = λ words seen. text_unread words _ c.args.command.limit c.in-Err-input_of-2.stop (rw c.in-Load.is at seen)
    c.in-Err-input_of-2.ensures

pub returns-in-Err-input_of-3-clause-task : goal.returns-in-Err-input_of-3-clause-task
returns-in-Err-input_of-3-clause-task g c = λ words seen. salvage_unread words _ c.args.command.limit c.in-Salvage.asked c.in-Err-input_of-3.stop
    (rw c.in-Salvage.is at seen) c.in-Err-input_of-3.ensures

pub returns-in-Err-input_of-4-clause-task : goal.returns-in-Err-input_of-4-clause-task
returns-in-Err-input_of-4-clause-task g c =
    λ words seen. repair_unread words _ c.args.command.limit c.in-Repair.asked c.in-Err-input_of-4.stop (rw c.in-Repair.is at seen) c.in-Err-input_of-4.ensures

pub returns-in-Err-input_of-5-clause-task : goal.returns-in-Err-input_of-5-clause-task
returns-in-Err-input_of-5-clause-task g c =
    λ words seen. survey_unread words _ c.args.command.limit c.in-Survey.guess c.in-Err-input_of-5.stop (rw c.in-Survey.is at seen) c.in-Err-input_of-5.ensures
