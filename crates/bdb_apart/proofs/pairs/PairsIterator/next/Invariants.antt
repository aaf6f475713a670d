use Rattle.std.proofs.Common.{◌≡◌, ◌++◌, length}
use Rattle.std.specs.List.{All, flat_map}
use Rattle.bdb_rescue.specs.Kept.{file_in, left_of}
use Rattle.bdb_apart.specs.Left.{IsThere, pairs_on}
use Rattle.bdb_apart.proofs.pairs.PairsIterator.next.Given as goal

-- As much is left as at the beginning.
abbrev pub invariant-walk : goal.invariant-walk
invariant-walk l = record {
  left : left_of l.self-inside.here ++ flat_map (pairs_on (file_in l.self-inside.salvaged.now) l.self-inside.holds) l.self-inside.pages
      ≡ left_of l.initial.self-inside.here
      ++ flat_map (pairs_on (file_in l.initial.self-inside.salvaged.now) l.initial.self-inside.holds) l.initial.self-inside.pages;
  there : All (IsThere (file_in l.self-inside.salvaged.now)) l.self-inside.pages;
}

abbrev pub decreases-walk : goal.decreases-walk
decreases-walk l = length l.self-inside.pages
