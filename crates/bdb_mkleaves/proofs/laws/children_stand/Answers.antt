use Rattle.bdb_mkleaves.proofs.InnerLemmas.{children_stand}
use Rattle.bdb_mkleaves.proofs.laws.children_stand.Goals as goal

pub returns : goal.returns
returns c = children_stand
