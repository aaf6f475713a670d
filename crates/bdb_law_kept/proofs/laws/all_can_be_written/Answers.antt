use Rattle.bdb_law_kept.proofs.WrittenLemmas.{all_can_be_written}
use Rattle.bdb_law_kept.proofs.laws.all_can_be_written.Goals as goal

pub returns : goal.returns
returns c = all_can_be_written
