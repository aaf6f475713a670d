-- The lemma says it.
use Rattle.bdb_law_turned.proofs.LawLemmas.{flipped_files_keep_databases}
use Rattle.bdb_law_turned.proofs.laws.flipped_files_keep_databases.Goals as goal

pub returns : goal.returns
returns c = flipped_files_keep_databases
