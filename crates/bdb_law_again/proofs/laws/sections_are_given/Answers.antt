use Rattle.bdb_law_again.proofs.GivenLemmas.{sections_are_given}
use Rattle.bdb_law_again.proofs.laws.sections_are_given.Goals as goal

pub returns : goal.returns
returns c = sections_are_given
