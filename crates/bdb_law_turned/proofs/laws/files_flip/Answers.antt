-- The lemma says it.
use Rattle.bdb_law_turned.proofs.LawLemmas.{files_flip}
use Rattle.bdb_law_turned.proofs.laws.files_flip.Goals as goal

pub returns : goal.returns
returns c = files_flip
