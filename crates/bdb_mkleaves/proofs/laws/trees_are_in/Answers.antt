use Rattle.bdb_mkleaves.proofs.LayoutLemmas.{trees_are_in}
use Rattle.bdb_mkleaves.proofs.laws.trees_are_in.Goals as goal

pub returns : goal.returns
returns c = trees_are_in
