use Rattle.bdb_law_grove.proofs.SpanLemmas.{groves_follow}
use Rattle.bdb_law_grove.proofs.laws.groves_follow.Goals as goal

pub returns : goal.returns
returns c = groves_follow
