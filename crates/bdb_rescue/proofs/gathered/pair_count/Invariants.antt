use Rattle.std.specs.List.{All}
use Rattle.bdb_rescue.specs.Kept.{IsKeptPair, file_in}
use Rattle.bdb_rescue.proofs.gathered.pair_count.Given as goal

-- Each pair that is left is kept.
abbrev pub invariant-loop-pair : goal.invariant-loop-pair
invariant-loop-pair l = All (IsKeptPair (file_in l.fn.salvaged)) l.pair-iterator
