use Rattle.bdb_tool_build.proofs.GatheredLemmas.{AddsSoFar}
use Rattle.bdb_tool_build.proofs.gathered.Gatherer.push_blocks.Given as goal

-- The key stands there with the data passed.
abbrev pub invariant-loop-block : goal.invariant-loop-block
invariant-loop-block l = AddsSoFar l.fn.self l.self l.fn.key l.fn.blocks.blocks l.block-iterator.blocks
