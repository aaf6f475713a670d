use Rattle.bdb_law_kept.proofs.NameLemmas.{in_order_of_names}
use Rattle.bdb_law_kept.proofs.laws.in_order_of_names.Goals as goal

pub returns : goal.returns
returns c = in_order_of_names
