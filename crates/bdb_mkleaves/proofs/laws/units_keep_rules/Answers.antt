use Rattle.bdb_mkleaves.proofs.PlacedLaws.{units_keep_rules}
use Rattle.bdb_mkleaves.proofs.laws.units_keep_rules.Goals as goal

pub returns : goal.returns
returns c = units_keep_rules
