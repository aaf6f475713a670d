use Rattle.std.proofs.Common.{◌≡◌, ◌++◌, map}
use Rattle.std.specs.List.{All, flat_map}
use Rattle.bdb_rescue.specs.Gathered.{stored_pair}
use Rattle.bdb_rescue.specs.Kept.{file_in}
use Rattle.bdb_apart.specs.Left.{IsThere, pairs_on}
use Rattle.bdb_apart.proofs.section_pairs.push_pairs.Given as goal

-- The pairs so far, and those on the pages that are left, are all.
abbrev pub invariant-loop-page : goal.invariant-loop-page
invariant-loop-page l = record {
  reading : l.all.reading ≡ l.fn.salvaged;
  there : All (IsThere (file_in l.fn.salvaged)) l.page-iterator;
  all : l.all.gathered.pairs ++ map stored_pair (flat_map (pairs_on (file_in l.fn.salvaged) l.fn.holds) l.page-iterator)
      ≡ l.initial.all.gathered.pairs ++ map stored_pair (flat_map (pairs_on (file_in l.fn.salvaged) l.fn.holds) l.fn.pages);
}
