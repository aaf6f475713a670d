use Rattle.bdb_law_join.proofs.FiledLemmas.{btrees_are_spelled}
use Rattle.bdb_law_join.proofs.laws.btrees_are_spelled.Goals as goal

pub returns : goal.returns
returns c = btrees_are_spelled
