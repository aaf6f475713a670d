use Rattle.bdb_law_homes.proofs.SalvagedLemmas.{salvaged_homes_are_those}
use Rattle.bdb_law_homes.proofs.laws.salvaged_homes_are_those.Goals as goal

pub returns : goal.returns
returns c = salvaged_homes_are_those
