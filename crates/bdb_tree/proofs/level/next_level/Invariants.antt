use Rattle.std.proofs.Common.{◌≡◌, take, All, flat_map}
use Rattle.bdb_overflow.specs.of_format.Terms.{file_of}
use Rattle.bdb_tree.specs.Trees.{IsTreePage, children_at}
use Rattle.bdb_tree.proofs.level.next_level.Given as goal

-- The children of the pages passed are added.
abbrev pub invariant-loop-page : goal.invariant-loop-page
invariant-loop-page l = record {
  children : l.next.items ≡ flat_map (children_at (file_of l.forest)) (take l.page-index l.pages);
  trees : All (IsTreePage (file_of l.forest)) l.next.items;
}
