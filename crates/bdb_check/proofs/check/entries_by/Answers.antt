use Rattle.std.proofs.Common.{[], ◌∷◌}
use Rattle.bdb_any_order.specs.AnyOrder.{stages_by}
use Rattle.bdb_any_order.proofs.OrderLemmas.{rows_ascend}
use Rattle.bdb_check.proofs.check.entries_by.Goals as goal

pub returns-in-Ok-judge-clause-accepted : goal.returns-in-Ok-judge-clause-accepted
returns-in-Ok-judge-clause-accepted g c =
    c.in-Ok-judge.ensures.accepted (stages_by c.args.rows (6 ∷ 7 ∷ []) c.args.linked.now) (rows_ascend c.args.rows c.args.linked.now (6 ∷ 7 ∷ []))
    c.in-Ok.ensures.noted

pub returns-in-Ok-judge-clause-entries : goal.returns-in-Ok-judge-clause-entries
returns-in-Ok-judge-clause-entries g c =
    c.in-Ok.ensures.entries
    (c.in-Ok-judge.ensures.accepted (stages_by c.args.rows (6 ∷ 7 ∷ []) c.args.linked.now) (rows_ascend c.args.rows c.args.linked.now (6 ∷ 7 ∷ []))
    c.in-Ok.ensures.noted)

pub returns-clause-refusal : goal.returns-clause-refusal
returns-clause-refusal g c =
    c.in-Err.ensures.refused (stages_by c.args.rows (6 ∷ 7 ∷ []) c.args.linked.now) (rows_ascend c.args.rows c.args.linked.now (6 ∷ 7 ∷ []))
    c.in-Ok.ensures.noted
