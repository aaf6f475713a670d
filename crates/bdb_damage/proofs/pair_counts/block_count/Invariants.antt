use Rattle.std.proofs.Common.{◌≡◌, ◌+◌, length}
use Rattle.bdb_damage.proofs.pair_counts.block_count.Given as goal

-- The blocks so far, and those that are left, are all.
abbrev pub invariant-loop-block : goal.invariant-loop-block
invariant-loop-block l = l.count + length l._block-iterator.blocks ≡ length l.fn.blocks.blocks
