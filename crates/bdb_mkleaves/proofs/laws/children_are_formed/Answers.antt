use Rattle.bdb_mkleaves.proofs.InnerLemmas.{children_are_formed}
use Rattle.bdb_mkleaves.proofs.laws.children_are_formed.Goals as goal

pub returns : goal.returns
returns c = children_are_formed
