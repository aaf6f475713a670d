use Rattle.bdb_law_join.proofs.FiledLemmas.{filed_parts_are_joined}
use Rattle.bdb_law_join.proofs.laws.filed_parts_are_joined.Goals as goal

pub returns : goal.returns
returns c = filed_parts_are_joined
