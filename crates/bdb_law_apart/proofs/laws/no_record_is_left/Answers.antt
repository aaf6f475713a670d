use Rattle.bdb_law_apart.proofs.RecordLemmas.{no_record_is_left}
use Rattle.bdb_law_apart.proofs.laws.no_record_is_left.Goals as goal

pub returns : goal.returns
returns c = no_record_is_left
