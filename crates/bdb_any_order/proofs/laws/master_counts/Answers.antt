use Rattle.bdb_any_order.proofs.OrderLemmas.{master_counts}
use Rattle.bdb_any_order.proofs.laws.master_counts.Goals as goal

pub returns : goal.returns
returns c = master_counts
