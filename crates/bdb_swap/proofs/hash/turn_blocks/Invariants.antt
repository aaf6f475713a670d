use Rattle.std.proofs.Common.{◌≡◌, ◌≤◌, ◌+◌, length, ℕ, List}
use Rattle.bdb_law_turned.specs.Fields.{block_fields}
use Rattle.bdb_law_turned.specs.Apart.{run_length}
use Rattle.bdb_swap.specs.Turns.{Turns}
use Rattle.bdb_swap.proofs.hash.turn_blocks.Given as goal

-- Where the blocks that are left are byte-swapped, all of them are.
abbrev pub invariant-loop-block : goal.invariant-loop-block
invariant-loop-block l = record {
  turns : (last : List ℕ) → Turns l.source (block_fields l.place l.block-iterator.blocks) l.page last
      → Turns l.source (block_fields l.fn.at l.fn.blocks.blocks) l.fn.page last;
  room : l.place + run_length l.block-iterator.blocks ≤ length l.source;
  same : length l.page ≡ length l.fn.page;
}
