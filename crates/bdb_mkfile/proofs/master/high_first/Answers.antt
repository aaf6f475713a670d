use Rattle.std.proofs.Common.{rules}
use Rattle.bdb_io.specs.of_format.Terms.{spelled}
use Rattle.bdb_mkfile.proofs.master.high_first.Goals as goal

pub returns : goal.returns
unfolding spelled
returns c = search rules
