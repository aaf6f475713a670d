use Rattle.bdb_stat.proofs.StatLemmas.{classes_add_up}
use Rattle.bdb_stat.proofs.laws.classes_add_up.Goals as goal

pub returns : goal.returns
returns c = classes_add_up
