use Rattle.std.proofs.Common.{◌≡◌, ◌≤◌, cond}
use Rattle.std.specs.List.{range_with_len, sum_by}
use Rattle.bdb_apart.specs.of_survey.Slots.{slots_seen}
use Rattle.bdb_damage.specs.Tallies.{is_live_pair}
use Rattle.bdb_damage.proofs.pair_counts.live_on.Given as goal

-- The live pairs so far are counted.
abbrev pub invariant-loop-index : goal.invariant-loop-index
invariant-loop-index l = record {
  counted : l.count ≡ sum_by (λ i. cond (is_live_pair (slots_seen l.slots) i) 1 0) (range_with_len 0 l.index);
  few : l.count ≤ l.index;
}
