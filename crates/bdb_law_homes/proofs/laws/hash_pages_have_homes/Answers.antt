use Rattle.bdb_law_homes.proofs.HavingLemmas.{hash_pages_have_homes}
use Rattle.bdb_law_homes.proofs.laws.hash_pages_have_homes.Goals as goal

pub returns : goal.returns
returns c = hash_pages_have_homes
