-- The lemma says it.
use Rattle.bdb_repair.proofs.LineLemmas.{lines_have_no_part}
use Rattle.bdb_repair.proofs.laws.lines_have_no_part.Goals as goal

pub returns : goal.returns
returns c = lines_have_no_part
