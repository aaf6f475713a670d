use Rattle.bdb_mkleaves.proofs.CountedLaws.{pushed_units_are_counted}
use Rattle.bdb_mkleaves.proofs.laws.pushed_units_are_counted.Goals as goal

pub returns : goal.returns
returns c = pushed_units_are_counted
