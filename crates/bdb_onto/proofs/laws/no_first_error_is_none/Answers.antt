use Rattle.bdb_onto.proofs.NothingLemmas.{no_first_error_is_none}
use Rattle.bdb_onto.proofs.laws.no_first_error_is_none.Goals as goal

pub returns : goal.returns
returns c = no_first_error_is_none
