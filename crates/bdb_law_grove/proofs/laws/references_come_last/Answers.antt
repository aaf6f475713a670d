use Rattle.bdb_law_grove.proofs.GroveLemmas.{references_come_last}
use Rattle.bdb_law_grove.proofs.laws.references_come_last.Goals as goal

pub returns : goal.returns
returns c = references_come_last
