use Rattle.std.proofs.Common.{◌≡◌, ◌++◌, map, All, filter}
use Rattle.bdb_rescue.specs.Gathered.{is_record_of, loose_pair}
use Rattle.bdb_rescue.specs.Kept.{IsKeptValue, file_in, numbered_at}
use Rattle.bdb_rescue.proofs.gathered.Gatherer.push_records.Given as goal

-- What is added, and the records at the places that are left, are all.
abbrev pub invariant-loop-place : goal.invariant-loop-place
invariant-loop-place l = record {
  kept : All (IsKeptValue (file_in l.fn.self.reading)) l.place-iterator;
  reading : l.self.reading ≡ l.fn.self.reading;
  all : l.self.gathered.pairs ++ map loose_pair (filter (is_record_of l.fn.len) (map (numbered_at (file_in l.fn.self.reading) l.fn.start) l.place-iterator))
      ≡ l.fn.self.gathered.pairs ++ map loose_pair (filter (is_record_of l.fn.len) (map (numbered_at (file_in l.fn.self.reading) l.fn.start) l.fn.places));
}
