use Rattle.bdb_pack.proofs.SharedLemmas.{entries_are_shared}
use Rattle.bdb_pack.proofs.laws.entries_are_shared.Goals as goal

pub returns : goal.returns
returns c = entries_are_shared
