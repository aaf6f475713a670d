use Rattle.bdb_mkleaves.proofs.HeldLemmas.{leaves_stand}
use Rattle.bdb_mkleaves.proofs.laws.leaves_stand.Goals as goal

pub returns : goal.returns
returns c = leaves_stand
