use Rattle.bdb_law_kept.proofs.NameLemmas.{all_together}
use Rattle.bdb_law_kept.proofs.laws.all_together.Goals as goal

pub returns : goal.returns
returns c = all_together
