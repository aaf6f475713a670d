use Rattle.bdb_law_grove.proofs.ShareLemmas.{shares}
use Rattle.bdb_law_grove.proofs.laws.grove_shares.Goals as goal

pub returns : goal.returns
returns c = shares
