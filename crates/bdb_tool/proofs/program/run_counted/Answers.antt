use Rattle.bdb_tool.proofs.OntoLemmas.{alone_of}
use Rattle.bdb_tool.proofs.program.run_counted.Goals as goal

pub returns : goal.returns
returns g c = alone_of _ _ _ _ _ c.run.ensures.runs
