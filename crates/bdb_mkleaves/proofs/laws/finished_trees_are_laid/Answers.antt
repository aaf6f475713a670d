use Rattle.bdb_mkleaves.proofs.FinishedLaws.{finished_trees_are_laid}
use Rattle.bdb_mkleaves.proofs.laws.finished_trees_are_laid.Goals as goal

pub returns : goal.returns
returns c = finished_trees_are_laid
