use Rattle.std.proofs.Common.{ap}
use Rattle.bdb_mkleaves.specs.Levels.{stored_heads}
use Rattle.bdb_mkleaves.proofs.levels.raise_key.Goals as goal

pub raise_count-requires-clause-head : goal.raise_count-requires-clause-head
raise_count-requires-clause-head c = c.requires.head c.in-Chain.head (ap stored_heads c.in-Chain.is)
