use Rattle.std.proofs.Common.{◌≡◌, length}
use Rattle.bdb_law_turned.specs.Fields.{fours}
use Rattle.bdb_swap.specs.Turns.{Turns}
use Rattle.bdb_swap.proofs.number.turn_fours.Given as goal

-- The numbers so far are byte-swapped.
abbrev pub invariant-loop-i : goal.invariant-loop-i
invariant-loop-i l = record {
  turns : Turns l.source (fours l.at l.i) l.fn.page l.page;
  same : length l.page ≡ length l.fn.page;
}
