use Rattle.bdb_model.specs.of_format.Terms.{file_of}
use Rattle.bdb_file.proofs.of_hash_list.LookupLemmas.{no_key_twice}
use Rattle.bdb_tool_build.proofs.table.table_pairs.Goals as goal

pub pairs_in_order-requires-clause-keys : goal.pairs_in_order-requires-clause-keys
pairs_in_order-requires-clause-keys c = no_key_twice (file_of c.args.linked.now) c.args.meta.now c.requires.contents
