use Rattle.bdb_mkleaves.proofs.LaidPartLemmas.{laid_trees_are_parts}
use Rattle.bdb_mkleaves.proofs.laws.laid_trees_are_parts.Goals as goal

pub returns : goal.returns
returns c = laid_trees_are_parts
