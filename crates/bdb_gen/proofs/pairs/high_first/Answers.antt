use Rattle.std.proofs.Common.{rules}
use Rattle.bdb_text_format.specs.of_format.Terms.{spelled}
use Rattle.bdb_gen.proofs.pairs.high_first.Goals as goal

pub returns : goal.returns
unfolding spelled
returns c = search rules
