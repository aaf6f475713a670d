use Rattle.bdb_law_kept.proofs.AlikeLemmas.{loads_without_errors}
use Rattle.bdb_law_kept.proofs.laws.loads_without_errors.Goals as goal

pub returns : goal.returns
returns c = loads_without_errors
