use Rattle.std.proofs.Common.{◌≡◌, ◌++◌, map}
use Rattle.std.specs.List.{All, flat_map}
use Rattle.bdb_rescue.specs.Gathered.{loose_pair}
use Rattle.bdb_rescue.specs.Kept.{file_in}
use Rattle.bdb_apart.specs.Left.{IsThere, fit_on}
use Rattle.bdb_apart.specs.declared.holds.Holds.TheVariants.{Records as OnLeaves}
use Rattle.bdb_apart.proofs.section_pairs.push_records.Given as goal

-- The records so far, and those on the pages that are left, are all.
abbrev pub invariant-loop-page : goal.invariant-loop-page
invariant-loop-page l = record {
  reading : l.all.reading ≡ l.fn.salvaged;
  there : All (IsThere (file_in l.fn.salvaged)) l.page-iterator;
  all : l.all.gathered.pairs ++ map loose_pair (flat_map (fit_on (file_in l.fn.salvaged) (OnLeaves l.fn.len)) l.page-iterator)
      ≡ l.initial.all.gathered.pairs ++ map loose_pair (flat_map (fit_on (file_in l.fn.salvaged) (OnLeaves l.fn.len)) l.fn.pages);
}
