use Rattle.bdb_layout.proofs.BlockLemmas.{some_left}
use Rattle.bdb_layout.proofs.blocks.DupBlocks.bytes.Goals as goal

pub returns : goal.returns
returns c = rw (← c.self.view_is) (some_left _ c.self.invariant)
