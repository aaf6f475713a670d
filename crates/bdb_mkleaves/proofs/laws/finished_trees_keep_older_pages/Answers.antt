use Rattle.bdb_mkleaves.proofs.KeptLemmas.{finished_trees_keep_older_pages}
use Rattle.bdb_mkleaves.proofs.laws.finished_trees_keep_older_pages.Goals as goal

pub returns : goal.returns
returns c = finished_trees_keep_older_pages
