use Rattle.bdb_mkleaves.proofs.PlacedLaws.{pairs_follow}
use Rattle.bdb_mkleaves.proofs.laws.pairs_follow.Goals as goal

pub returns : goal.returns
returns c = pairs_follow
