use Rattle.bdb_law_kept.proofs.AlikeLemmas.{keeps_lists}
use Rattle.bdb_law_kept.proofs.laws.keeps_lists.Goals as goal

pub returns : goal.returns
returns c = keeps_lists
