use Rattle.bdb_repair.specs.declared.error.RepairError.TheVariants.{NoMeta, TooLarge, Memory}
use Rattle.bdb_tool.proofs.RepairLemmas.{why_as}
use Rattle.bdb_tool.proofs.repairing.tell_unbuilt.Goals as goal

pub returns-in-NoMeta : goal.returns-in-NoMeta
returns-in-NoMeta g c = why_as c.args.limit c.args.error NoMeta _ _ c.in-NoMeta.is c.tell.ensures

pub returns-in-TooLarge : goal.returns-in-TooLarge
returns-in-TooLarge g c = why_as c.args.limit c.args.error TooLarge _ _ c.in-TooLarge.is c.tell_too_large.ensures

pub returns-in-Memory : goal.returns-in-Memory
returns-in-Memory g c = why_as c.args.limit c.args.error Memory _ _ c.in-Memory.is c.tell_memory.ensures
