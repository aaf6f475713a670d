use Rattle.std.proofs.Common.{◌≡◌, ◌≤◌, ◌*◌, ◌^◌, take, sum_by}
use Rattle.bdb_need.proofs.Common.{values_seen, chain_pages}
use Rattle.bdb_need.proofs.data.data_chains.Given as goal

-- The chains of the data passed are counted.
abbrev pub invariant-loop-i : goal.invariant-loop-i
invariant-loop-i l = (l.pages ≡ sum_by (chain_pages l.size) (take l.i (values_seen l.values))) × (l.pages ≤ l.i * 2 ^ 32)
