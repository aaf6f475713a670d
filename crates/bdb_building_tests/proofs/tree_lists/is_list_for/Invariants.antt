use Rattle.std.proofs.Common.{◌≤◌, drop, length}
use Rattle.bdb_need.specs.of_text_format.Terms.{pairs_of}
use Rattle.bdb_mktree.specs.Lists.{IsTreeList}
use Rattle.bdb_building_tests.proofs.tree_lists.is_list_for.Given as goal

-- A tree can be built of the pairs from `i` on.
abbrev pub invariant-loop-i : goal.invariant-loop-i
invariant-loop-i l = (l.i ≤ length (pairs_of l.list)) × IsTreeList l.settings (drop l.i (pairs_of l.list))

abbrev pub decreases-loop-i : goal.decreases-loop-i
decreases-loop-i l = l.i
