use Rattle.std.proofs.Common.{◌≡◌, length, All}
use Rattle.bdb_rescue.specs.Kept.{IsKeptPair, file_in, pairs_left}
use Rattle.bdb_rescue.proofs.pairs.SalvagePairsIterator.next.Given as goal

-- As much is left as at the beginning.
abbrev pub invariant-loop-pair : goal.invariant-loop-pair
invariant-loop-pair l = record {
  left : pairs_left (file_in l.self-inside.salvaged.now) l.self-inside.here l.self-inside.pairs
      ≡ pairs_left (file_in l.initial.self-inside.salvaged.now) l.initial.self-inside.here l.initial.self-inside.pairs;
  kept : All (IsKeptPair (file_in l.self-inside.salvaged.now)) l.self-inside.pairs;
}

abbrev pub decreases-loop-pair : goal.decreases-loop-pair
decreases-loop-pair l = length l.self-inside.pairs
