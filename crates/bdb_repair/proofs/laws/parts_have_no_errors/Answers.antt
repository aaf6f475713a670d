-- The lemma says it.
use Rattle.bdb_repair.proofs.PartLemmas.{parts_have_no_errors}
use Rattle.bdb_repair.proofs.laws.parts_have_no_errors.Goals as goal

pub returns : goal.returns
returns c = parts_have_no_errors
