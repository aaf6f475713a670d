use Rattle.std.proofs.Common.{◌≡◌, ◌+◌, ◌++◌, length, map}
use Rattle.std.specs.List.{All, enumerate_from}
use Rattle.bdb_rescue.specs.Gathered.{loose_pair, loose_pairs}
use Rattle.bdb_rescue.specs.Kept.{IsKeptValue, file_in, loose_values, value_at}
use Rattle.bdb_rescue.proofs.gathered.loose_pairs.Given as goal

-- So many records were numbered; the pairs so far, and those of what is left, are those of all.
abbrev pub invariant-loop-place : goal.invariant-loop-place
invariant-loop-place l = record {
  kept : All (IsKeptValue (file_in l.fn.salvaged)) l.place-iterator;
  reading : l.all.reading ≡ l.fn.salvaged;
  numbered : l.number + length l.place-iterator ≡ length (loose_values (file_in l.fn.salvaged));
  all : l.all.gathered.pairs ++ map loose_pair (enumerate_from (l.number + 1) (map (value_at (file_in l.fn.salvaged)) l.place-iterator))
      ≡ loose_pairs (map (value_at (file_in l.fn.salvaged)) (loose_values (file_in l.fn.salvaged)));
}
