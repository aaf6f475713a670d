use Rattle.bdb_mkleaves.proofs.GrownLaws.{grown_sets_stand}
use Rattle.bdb_mkleaves.proofs.laws.grown_sets_stand.Goals as goal

pub returns : goal.returns
returns c = grown_sets_stand
