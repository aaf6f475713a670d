use Rattle.bdb_tool_build.specs.Trials.{IsTrialAnswer}
use Rattle.bdb_tool.proofs.BuiltLemmas.{refusal_ends, written_ends}
use Rattle.bdb_tool.proofs.building.answer_trial.Goals as goal

pub returns-in-Ok : goal.returns-in-Ok
returns-in-Ok g c = written_ends (IsTrialAnswer c.args.limit c.args.trial.kind c.args.trial.seed c.args.trial.count) _ _ _ _ _ c.in-Ok.ensures
    (rw c.as_bytes.ensures.value at c.put.ensures) c.report.ensures

pub returns-in-Err : goal.returns-in-Err
returns-in-Err g c = refusal_ends (IsTrialAnswer c.args.limit c.args.trial.kind c.args.trial.seed c.args.trial.count) _ _ _ _ _ c.in-Err.ensures
    c.tell_refusal.ensures
