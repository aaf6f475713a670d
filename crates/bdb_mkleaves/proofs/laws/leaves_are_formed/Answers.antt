use Rattle.bdb_mkleaves.proofs.HeldLemmas.{leaves_are_formed}
use Rattle.bdb_mkleaves.proofs.laws.leaves_are_formed.Goals as goal

pub returns : goal.returns
returns c = leaves_are_formed
