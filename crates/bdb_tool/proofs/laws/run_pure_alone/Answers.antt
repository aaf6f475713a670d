use Rattle.std.proofs.Common.{ap, Some}
use Rattle.bdb_tool.proofs.RunLemmas.{never_rose, pure_status}
use Rattle.bdb_tool.proofs.laws.run_pure_alone.Goals as goal

pub returns-clause-answers : goal.returns-clause-answers
returns-clause-answers g c = λ no_memory. pure_status _ _ _ _ _ _ c.run.ensures.runs (ap Some c.new-source.ensures) never_rose never_rose never_rose no_memory
