use Rattle.bdb_tool_words.specs.Commands.{command_of}
use Rattle.bdb_tool.proofs.task.task_of.Goals as goal

pub returns-clause-task : goal.returns-clause-task
returns-clause-task g c = c.task_with.ensures.task (command_of c.args.words.now) c.in-Some.ensures.command
