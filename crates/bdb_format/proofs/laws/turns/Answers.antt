use Rattle.bdb_format.proofs.TurnLemmas.{header-turned}
use Rattle.bdb_format.proofs.laws.turns.Goals as goal

pub returns-clause-headers : goal.returns-clause-headers
returns-clause-headers c = header-turned
