-- What is unfolded to compute what a file holds.
use Rattle.std.specs.Prelude.{⊤}
use Rattle.sample_graphs.proofs.Computed.{graphs}
use Rattle.sample_graphs.specs.of_format.Terms.{btree_list, database_faults, databases, hash_list, queue_list, recno_list}

unfoldable pub contents : ⊤
unfolding graphs database_faults btree_list recno_list queue_list hash_list databases
contents = tt
