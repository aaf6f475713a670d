use Rattle.bdb_law_apart.proofs.LeftLemmas.{no_pair_is_left}
use Rattle.bdb_law_apart.proofs.laws.no_pair_is_left.Goals as goal

pub returns : goal.returns
returns c = no_pair_is_left
