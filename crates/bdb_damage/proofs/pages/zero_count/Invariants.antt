use Rattle.std.proofs.Common.{◌≡◌, ◌≤◌, cond}
use Rattle.std.specs.List.{range_with_len, sum_by}
use Rattle.bdb_damage.specs.Tallies.{is_zero_above}
use Rattle.bdb_damage.proofs.pages.zero_count.Given as goal

-- The zero pages so far are counted.
abbrev pub invariant-loop-page : goal.invariant-loop-page
invariant-loop-page l = record {
  counted : l.zeros ≡ sum_by (λ p. cond (is_zero_above l.apart p) 1 0) (range_with_len 0 l.page);
  few : l.zeros ≤ l.page;
}
