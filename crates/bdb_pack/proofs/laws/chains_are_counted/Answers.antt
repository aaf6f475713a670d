use Rattle.bdb_pack.proofs.CountLemmas.{chains_are_counted}
use Rattle.bdb_pack.proofs.laws.chains_are_counted.Goals as goal

pub returns : goal.returns
returns c = chains_are_counted
