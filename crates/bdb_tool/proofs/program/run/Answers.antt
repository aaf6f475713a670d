use Rattle.bdb_tool.proofs.OntoLemmas.{runs_without}
use Rattle.bdb_tool.proofs.program.run.Goals as goal

pub returns-in-Some-clause-runs : goal.returns-in-Some-clause-runs
returns-in-Some-clause-runs g c = rw c.in-Some.is c.run_with.ensures.runs

pub returns-in-None-clause-runs : goal.returns-in-None-clause-runs
returns-in-None-clause-runs g c = rw c.in-None.is (runs_without _ _ _ _ _ c.run_alone.ensures.runs)

pub returns-in-Some-clause-cost : goal.returns-in-Some-clause-cost
returns-in-Some-clause-cost g c = rw c.in-Some.is c.run_with.ensures.cost

pub returns-in-None-clause-cost : goal.returns-in-None-clause-cost
returns-in-None-clause-cost g c = rw c.in-None.is c.run_alone.ensures.cost
