use Rattle.std.proofs.Common.{◌≡◌}
use Rattle.std.specs.List.{range_with_len}
use Rattle.bdb_graph.proofs.leaps.no_leaps.Given as goal

-- Each page so far leads to itself.
abbrev pub invariant-loop-page : goal.invariant-loop-page
invariant-loop-page l = l.leaps.items ≡ range_with_len 0 l.page
