use Rattle.std.proofs.Common.{◌≡◌, ◌++◌, map, All, flat_map}
use Rattle.bdb_rescue.specs.Gathered.{stored_pair}
use Rattle.bdb_rescue.specs.Kept.{IsKeptPair, file_in, given_live, kept_pairs}
use Rattle.bdb_rescue.proofs.gathered.stored_pairs.Given as goal

-- What is added, and what the pairs that are left give, is all.
abbrev pub invariant-loop-pair : goal.invariant-loop-pair
invariant-loop-pair l = record {
  kept : All (IsKeptPair (file_in l.fn.salvaged)) l.pair-iterator;
  reading : l.all.reading ≡ l.fn.salvaged;
  all : l.all.gathered.pairs ++ map stored_pair (flat_map (given_live (file_in l.fn.salvaged)) l.pair-iterator)
      ≡ map stored_pair (flat_map (given_live (file_in l.fn.salvaged)) (kept_pairs (file_in l.fn.salvaged)));
}
