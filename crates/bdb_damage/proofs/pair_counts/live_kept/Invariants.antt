use Rattle.std.proofs.Common.{◌≡◌, ◌≤◌, cond, take}
use Rattle.std.specs.List.{sum_by}
use Rattle.bdb_damage.specs.Tallies.{is_kept_live}
use Rattle.bdb_damage.proofs.pair_counts.live_kept.Given as goal

-- The live pairs so far are counted.
abbrev pub invariant-loop-pair : goal.invariant-loop-pair
invariant-loop-pair l = record {
  counted : l.count ≡ sum_by (λ kept. cond (is_kept_live kept) 1 0) (take l.pair-index l.pairs);
  few : l.count ≤ l.pair-index;
}
