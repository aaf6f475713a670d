use Rattle.bdb_onto.proofs.NothingLemmas.{onto_nothing}
use Rattle.bdb_onto.proofs.laws.onto_nothing.Goals as goal

pub returns : goal.returns
returns c = onto_nothing
