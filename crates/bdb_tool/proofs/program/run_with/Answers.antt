use Rattle.bdb_tool.proofs.OntoLemmas.{alone_runs}
use Rattle.bdb_tool.proofs.ClaimLemmas.{onto_reads}
use Rattle.bdb_tool.proofs.program.run_with.Goals as goal

pub returns-in-Some-clause-runs : goal.returns-in-Some-clause-runs
returns-in-Some-clause-runs g c = c.load_onto.ensures c.args.words.now c.in-Some.ensures

pub returns-in-None-clause-runs : goal.returns-in-None-clause-runs
returns-in-None-clause-runs g c = alone_runs _ _ _ _ _ _ _ c.in-None.ensures c.run_alone.ensures.runs

pub returns-in-Some-clause-cost : goal.returns-in-Some-clause-cost
returns-in-Some-clause-cost g c = onto_reads c.args.words.now _ _ _ _ c.in-Some.ensures

pub returns-in-None-clause-cost : goal.returns-in-None-clause-cost
returns-in-None-clause-cost g c = rw c.in-None.ensures c.run_alone.ensures.cost
