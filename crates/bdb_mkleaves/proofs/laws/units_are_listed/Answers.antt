use Rattle.bdb_mkleaves.proofs.PlacedLaws.{units_are_listed}
use Rattle.bdb_mkleaves.proofs.laws.units_are_listed.Goals as goal

pub returns : goal.returns
returns c = units_are_listed
