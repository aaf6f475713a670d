use Rattle.bdb_mkleaves.proofs.CountedLaws.{finished_trees_have_size}
use Rattle.bdb_mkleaves.proofs.laws.finished_trees_have_size.Goals as goal

pub returns : goal.returns
returns c = finished_trees_have_size
