use Rattle.std.proofs.Common.{◌≡◌, length, take}
use Rattle.std.specs.List.{sum_by}
use Rattle.bdb_apart.specs.of_rescue.Kept.{file_in, given_live}
use Rattle.bdb_damage.proofs.pair_counts.count_among.Given as goal

-- The pairs of those so far are counted.
abbrev pub invariant-loop-pair : goal.invariant-loop-pair
invariant-loop-pair l = l.count ≡ sum_by (λ kept. length (given_live (file_in l.salvaged) kept)) (take l.pair-index l.pairs)
