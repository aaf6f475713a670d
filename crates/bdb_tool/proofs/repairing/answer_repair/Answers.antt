use Rattle.std.proofs.Common.{◌∙◌, sym}
use Rattle.bdb_tool.proofs.RepairLemmas.{repaired_ends, unrepaired_ends}
use Rattle.bdb_tool.specs.Claims.{built_guess}
use Rattle.bdb_tool.proofs.ClaimLemmas.{unread_within}
use Rattle.bdb_tool.proofs.repairing.answer_repair.Goals as goal

pub returns-in-Some-clause-answer : goal.returns-in-Some-clause-answer
returns-in-Some-clause-answer g c =
    unrepaired_ends c.args.limit c.in-Some.refusal c.args.asked.built c.args.asked.guess c.args.image.now _ _ _ _
    (sym c.refusal_of.ensures ∙ c.in-Some.is) c.tell_refusal.ensures

pub returns-clause-answer : goal.returns-clause-answer
returns-clause-answer g c =
    repaired_ends c.args.limit c.args.asked.built c.args.asked.guess c.args.image.now c.built_of-built.result _ _ _
    (sym c.refusal_of.ensures ∙ c.in_default.is) c.built_of-built.ensures.built c.built_of-built.ensures.tables c.answer_built.ensures

pub returns-in-Some-clause-cost : goal.returns-in-Some-clause-cost
returns-in-Some-clause-cost g c = unread_within (built_guess c.args.asked.built c.args.asked.guess) _ _
