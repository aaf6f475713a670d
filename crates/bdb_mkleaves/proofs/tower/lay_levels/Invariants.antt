use Rattle.std.proofs.Common.{◌≡◌, ◌⊎◌, ◌≤◌, ◌<◌, List, length}
use Rattle.bdb_mkleaves.proofs.Common.{Node, AreChildren}
use Rattle.bdb_mkleaves.proofs.TopLemmas.{IsTopped}
use Rattle.bdb_mkleaves.proofs.TowerLemmas.{IsBuilding}
use Rattle.bdb_mkleaves.proofs.tower.lay_levels.Given as goal

-- The pages are still those at the beginning, or of a level that was laid.
abbrev pub invariant-loop-alloc : goal.invariant-loop-alloc
invariant-loop-alloc l = record {
  low : 1 ≤ l.level;
  some : 0 < length l.row.items;
  built : (nodes : List Node) → AreChildren l.inner l.fn.pages l.fn.below.items nodes
      → IsBuilding l.inner l.fn.pages l.pages nodes l.level l.row.items;
  topped : (length l.row.items ≡ length l.fn.below.items)
      ⊎ ((nodes : List Node) → AreChildren l.inner l.fn.pages l.fn.below.items nodes → IsTopped l.inner l.fn.pages l.pages nodes l.row.items);
}

abbrev pub decreases-loop-alloc : goal.decreases-loop-alloc
decreases-loop-alloc l = length l.row.items
