use Rattle.std.proofs.Common.{◌≡◌, ◌++◌, map, All, flat_map}
use Rattle.bdb_rescue.specs.Gathered.{stored_pair}
use Rattle.bdb_rescue.specs.Kept.{IsKeptPair, file_in, given_live}
use Rattle.bdb_rescue.proofs.gathered.Gatherer.push_kept.Given as goal

-- What is added, and what the pairs that are left give, is all.
abbrev pub invariant-loop-pair : goal.invariant-loop-pair
invariant-loop-pair l = record {
  kept : All (IsKeptPair (file_in l.fn.self.reading)) l.pair-iterator;
  reading : l.self.reading ≡ l.fn.self.reading;
  all : l.self.gathered.pairs ++ map stored_pair (flat_map (given_live (file_in l.fn.self.reading)) l.pair-iterator)
      ≡ l.fn.self.gathered.pairs ++ map stored_pair (flat_map (given_live (file_in l.fn.self.reading)) l.fn.pairs);
}
