use Rattle.bdb_mkleaves.proofs.PushLemmas.{units_fit}
use Rattle.bdb_mkleaves.proofs.laws.units_fit.Goals as goal

pub returns : goal.returns
returns c = units_fit
