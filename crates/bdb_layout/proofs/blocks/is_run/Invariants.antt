use Rattle.std.proofs.Common.{◌≡◌, length, is_some}
use Rattle.bdb_format.specs.Terms.{blocks_of}
use Rattle.bdb_layout.proofs.blocks.is_run.Given as goal

-- What is left is a run exactly where all of it is.
abbrev pub invariant-loop-after : goal.invariant-loop-after
invariant-loop-after l = is_some (blocks_of l.order l.rest) ≡ is_some (blocks_of l.order l.bytes)

abbrev pub decreases-loop-after : goal.decreases-loop-after
decreases-loop-after l = length l.rest
