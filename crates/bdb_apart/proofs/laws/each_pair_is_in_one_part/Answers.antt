use Rattle.bdb_apart.proofs.PartLemmas.{each_pair}
use Rattle.bdb_apart.proofs.laws.each_pair_is_in_one_part.Goals as goal

pub returns : goal.returns
returns c = each_pair
