use Rattle.bdb_tool_words.specs.declared.command.Built.TheVariants.{Each, Shaped}
use Rattle.bdb_tool.proofs.RepairLemmas.{built_as}
use Rattle.bdb_tool.proofs.repairing.built_of.Goals as goal

pub returns-in-Each-clause-built : goal.returns-in-Each-clause-built
returns-in-Each-clause-built g c =
    built_as c.args.limit c.from-max.result Each c.args.asked.built _ _ _ c.from-max.ensures c.in-Each.is c.repair_apart.ensures.repaired

pub returns-in-Shaped-clause-built : goal.returns-in-Shaped-clause-built
returns-in-Shaped-clause-built g c =
    built_as c.args.limit c.from-max.result (Shaped c.in-Shaped.shape) c.args.asked.built _ _ _ c.from-max.ensures c.in-Shaped.is
    c.repair_as.ensures.repaired

pub returns-in-Each-clause-cost : goal.returns-in-Each-clause-cost
returns-in-Each-clause-cost g c = rw c.in-Each.is c.repair_apart.ensures.cost

pub returns-in-Shaped-clause-cost : goal.returns-in-Shaped-clause-cost
returns-in-Shaped-clause-cost g c = rw c.in-Shaped.is tt
