use Rattle.bdb_law_kept.proofs.NameLemmas.{queues_stand_alone}
use Rattle.bdb_law_kept.proofs.laws.queues_stand_alone.Goals as goal

pub returns : goal.returns
returns c = queues_stand_alone
