use Rattle.std.proofs.Common.{◌≡◌, drop}
use Rattle.bdb_mkfile.proofs.Common.{list_all, slice_seen, is_short_pair}
use Rattle.bdb_mkfile.proofs.lengths.are_short_pairs.Given as goal

-- The pairs passed are short.
abbrev pub invariant-loop-i : goal.invariant-loop-i
invariant-loop-i l = list_all is_short_pair (slice_seen l.fn.pairs) ≡ list_all is_short_pair (drop l.i (slice_seen l.fn.pairs))
