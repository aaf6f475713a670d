use Rattle.bdb_tool_build.proofs.TrialLemmas.{trial_loadable, trial_refused}
use Rattle.bdb_tool_build.proofs.trial.trial_image.Goals as goal

pub load-requires-clause-fit : goal.load-requires-clause-fit
load-requires-clause-fit c = rw c.in-Ok.ensures (trial_loadable c.args.kind c.args.seed c.args.count)

pub returns-in-Err-clause-refused : goal.returns-in-Err-clause-refused
returns-in-Err-clause-refused c =
    trial_refused c.args.limit c.from.result c.args.kind c.args.seed c.args.count c.in-Ok.sections c.in-Err.error c.refusal_of.result c.in-Ok.ensures
    c.from.ensures c.in-Err.ensures.refused c.refusal_of.ensures
