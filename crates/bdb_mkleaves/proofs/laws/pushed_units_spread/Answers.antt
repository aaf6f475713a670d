use Rattle.bdb_mkleaves.proofs.PushedLaws.{pushed_units_spread}
use Rattle.bdb_mkleaves.proofs.laws.pushed_units_spread.Goals as goal

pub returns : goal.returns
returns c = pushed_units_spread
