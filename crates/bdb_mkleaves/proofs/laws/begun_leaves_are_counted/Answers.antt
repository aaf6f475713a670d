use Rattle.bdb_mkleaves.proofs.CountedLaws.{begun_leaves_are_counted}
use Rattle.bdb_mkleaves.proofs.laws.begun_leaves_are_counted.Goals as goal

pub returns : goal.returns
returns c = begun_leaves_are_counted
