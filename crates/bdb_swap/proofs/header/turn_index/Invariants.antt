use Rattle.std.proofs.Common.{◌≡◌, length}
use Rattle.bdb_law_turned.specs.Fields.{index_fields}
use Rattle.bdb_swap.specs.Turns.{Turns}
use Rattle.bdb_swap.proofs.header.turn_index.Given as goal

-- The numbers so far are byte-swapped.
abbrev pub invariant-loop-i : goal.invariant-loop-i
invariant-loop-i l = record {
  turns : Turns l.source (index_fields l.i) l.fn.page l.page;
  same : length l.page ≡ length l.fn.page;
}
