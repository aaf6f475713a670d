use Rattle.bdb_law_homes.proofs.HavingLemmas.{pair_leaves_have_homes}
use Rattle.bdb_law_homes.proofs.laws.pair_leaves_have_homes.Goals as goal

pub returns : goal.returns
returns c = pair_leaves_have_homes
