use Rattle.bdb_mkleaves.proofs.FinishedLaws.{finished_trees_keep_pages}
use Rattle.bdb_mkleaves.proofs.laws.finished_trees_keep_pages.Goals as goal

pub returns : goal.returns
returns c = finished_trees_keep_pages
