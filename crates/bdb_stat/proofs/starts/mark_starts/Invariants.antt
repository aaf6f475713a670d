use Rattle.std.proofs.Common.{◌≡◌, length}
use Rattle.bdb_law_turned.specs.of_format.Terms.{offset_of}
use Rattle.bdb_stat.specs.Starts.{AreStarts}
use Rattle.bdb_stat.proofs.starts.mark_starts.Given as goal

-- The items so far are marked.
abbrev pub invariant-loop-i : goal.invariant-loop-i
invariant-loop-i l = record {
  marked : AreStarts l.starts l.i (offset_of l.order l.page);
  same : length l.starts ≡ length l.fn.starts;
}
