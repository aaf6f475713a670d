use Rattle.bdb_law_homes.proofs.OneLemmas.{hash_pages_are_of_one}
use Rattle.bdb_law_homes.proofs.laws.hash_pages_are_of_one.Goals as goal

pub returns : goal.returns
returns c = hash_pages_are_of_one
