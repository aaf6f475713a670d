use Rattle.std.proofs.Common.{[], ◌∷◌}
use Rattle.bdb_tool_build.proofs.GatheredLemmas.{so_far_more}
use Rattle.bdb_tool_build.proofs.gathered.Gatherer.push_blocks.Goals as goal

pub loop-block-preserved : goal.loop-block-preserved
loop-block-preserved c =
    so_far_more c.args.self.now c.loop-block.self c.push_held.new.self c.args.key c.args.blocks.blocks c.loop-block.block-iterator.blocks
    (c.in-Some.block.now ∷ []) c.next.new.self.blocks c.loop-block.invariant c.in-Some.ensures.steps c.in_ok-push_held.ensures
