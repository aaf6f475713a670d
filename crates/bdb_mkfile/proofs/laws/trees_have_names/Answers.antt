use Rattle.bdb_mkfile.proofs.TreeMetaLemmas.{trees_have_names}
use Rattle.bdb_mkfile.proofs.laws.trees_have_names.Goals as goal

pub returns : goal.returns
returns c = trees_have_names
