use Rattle.bdb_mkleaves.proofs.PlacedLaws.{units_are_read}
use Rattle.bdb_mkleaves.proofs.laws.units_are_read.Goals as goal

pub returns : goal.returns
returns c = units_are_read
