use Rattle.std.proofs.Common.{◌≡◌, ◌++◌, length}
use Rattle.std.specs.List.{flat_map}
use Rattle.bdb_rescue.specs.Kept.{file_in}
use Rattle.bdb_apart.specs.Left.{AreOfOne, fit_left, fit_on}
use Rattle.bdb_apart.proofs.leaf_records.LeafRecordsIterator.next.Given as goal

-- As much is left as at the beginning.
abbrev pub invariant-walk : goal.invariant-walk
invariant-walk l = record {
  left : fit_left l.self-inside.here ++ flat_map (fit_on (file_in l.self-inside.salvaged.now) l.self-inside.holds) l.self-inside.pages
      ≡ fit_left l.initial.self-inside.here
      ++ flat_map (fit_on (file_in l.initial.self-inside.salvaged.now) l.initial.self-inside.holds) l.initial.self-inside.pages;
  of_one : AreOfOne (file_in l.self-inside.salvaged.now) l.self-inside.homes.now l.self-inside.pages;
}

abbrev pub decreases-walk : goal.decreases-walk
decreases-walk l = length l.self-inside.pages
