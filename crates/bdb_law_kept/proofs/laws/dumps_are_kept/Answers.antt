use Rattle.bdb_law_kept.proofs.DumpLemmas.{dumps_are_kept}
use Rattle.bdb_law_kept.proofs.laws.dumps_are_kept.Goals as goal

pub returns : goal.returns
returns c = dumps_are_kept
