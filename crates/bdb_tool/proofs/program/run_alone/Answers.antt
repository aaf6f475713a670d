use Rattle.bdb_tool_words.specs.Commands.{command_on}
use Rattle.std.specs.Prelude.{false}
use Rattle.bdb_tool.proofs.OntoLemmas.{stopped_alone, taken_alone}
use Rattle.bdb_tool.proofs.ClaimLemmas.{task_reads, unread}
use Rattle.bdb_tool.proofs.program.run_alone.Goals as goal

pub returns-in-Ok-clause-runs : goal.returns-in-Ok-clause-runs
returns-in-Ok-clause-runs g c =
    λ asked is. taken_alone asked (command_on c.args.words.now false) _ _ _ c.in-Ok.task _ is c.in-Ok.ensures.task c.answer.ensures.answer

pub returns-in-Err-clause-runs : goal.returns-in-Err-clause-runs
returns-in-Err-clause-runs g c =
    λ asked is. stopped_alone asked (command_on c.args.words.now false) _ _ _ _ c.in-Err.stop _ is c.in-Err.ensures.task c.stopped.ensures

pub returns-in-Ok-clause-cost : goal.returns-in-Ok-clause-cost
returns-in-Ok-clause-cost g c = task_reads (command_on c.args.words.now false) _ c.in-Ok.task _ _ c.in-Ok.ensures.task c.answer.ensures.cost

pub returns-in-Err-clause-cost : goal.returns-in-Err-clause-cost
returns-in-Err-clause-cost g c = unread (command_on c.args.words.now false) _ _
