use Rattle.bdb_mkleaves.proofs.LayoutLemmas.{trees_are_sorted}
use Rattle.bdb_mkleaves.proofs.laws.trees_are_sorted.Goals as goal

pub returns : goal.returns
returns c = trees_are_sorted
