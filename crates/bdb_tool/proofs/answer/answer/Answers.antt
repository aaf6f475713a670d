use Rattle.bdb_tool.proofs.WantLemmas.{parts_finish}
use Rattle.bdb_tool.proofs.answer.answer.Goals as goal

pub returns-in-Load-clause-answer : goal.returns-in-Load-clause-answer
returns-in-Load-clause-answer g c = rw c.in-Load.is c.answer_load.ensures

pub returns-in-Trial-clause-answer : goal.returns-in-Trial-clause-answer
returns-in-Trial-clause-answer g c = rw c.in-Trial.is c.answer_trial.ensures

pub returns-in-Repair-clause-answer : goal.returns-in-Repair-clause-answer
returns-in-Repair-clause-answer g c = rw c.in-Repair.is (rw c.bytes-in-Repair.ensures at c.answer_repair.ensures.answer)

pub returns-in-Repair-clause-cost : goal.returns-in-Repair-clause-cost
returns-in-Repair-clause-cost g c = rw c.in-Repair.is (rw c.bytes-in-Repair.ensures at c.answer_repair.ensures.cost)

pub returns-in-Salvage-clause-answer : goal.returns-in-Salvage-clause-answer
returns-in-Salvage-clause-answer g c =
    rw c.in-Salvage.is
    (parts_finish c.in-Salvage.asked.parts c.in-Salvage.asked.guess c.in-Salvage.asked.print c.in-Salvage.image _ _ _
    (rw c.wanted_of-wanted.ensures at (rw c.bytes-in-Salvage.ensures at c.answer_damaged.ensures.answer)))

pub returns-in-Salvage-clause-cost : goal.returns-in-Salvage-clause-cost
returns-in-Salvage-clause-cost g c = rw c.in-Salvage.is (rw c.bytes-in-Salvage.ensures at c.answer_damaged.ensures.cost)
