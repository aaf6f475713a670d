-- The lemma says it.
use Rattle.bdb_law_turned.proofs.PageLemmas.{pages_turn_round}
use Rattle.bdb_law_turned.proofs.laws.pages_turn_round.Goals as goal

pub returns : goal.returns
returns c = pages_turn_round
