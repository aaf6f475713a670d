use Rattle.std.proofs.Common.{map, All}
use Rattle.bdb_rescue.specs.Kept.{IsKeptValue, file_in, value_at}
use Rattle.bdb_rescue.proofs.GatheredLemmas.{AddsSoFar}
use Rattle.bdb_rescue.proofs.gathered.Gatherer.push_places.Given as goal

-- The key stands there with the values passed.
abbrev pub invariant-loop-place : goal.invariant-loop-place
invariant-loop-place l = record {
  kept : All (IsKeptValue (file_in l.fn.self.reading)) l.place-iterator;
  adds : AddsSoFar l.fn.self l.self l.fn.key (map (value_at (file_in l.fn.self.reading)) l.fn.places)
      (map (value_at (file_in l.fn.self.reading)) l.place-iterator);
}
