use Rattle.bdb_mkleaves.proofs.LayoutLemmas.{finished_trees_are_laid_out}
use Rattle.bdb_mkleaves.proofs.laws.finished_trees_are_laid_out.Goals as goal

pub returns : goal.returns
returns c = finished_trees_are_laid_out
