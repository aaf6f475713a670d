-- The lemma says it.
use Rattle.bdb_repair.proofs.PartLemmas.{parts_are_loadable}
use Rattle.bdb_repair.proofs.laws.parts_are_loadable.Goals as goal

pub returns : goal.returns
returns c = parts_are_loadable
