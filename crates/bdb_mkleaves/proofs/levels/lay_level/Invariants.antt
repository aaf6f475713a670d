use Rattle.std.proofs.Common.{List, take, IsTrue}
use Rattle.bdb_mkleaves.proofs.Common.{is_page_size, Node, AreChildren, IsLevelLaid}
use Rattle.bdb_mkleaves.proofs.levels.lay_level.Given as goal

abbrev pub invariant-loop-child : goal.invariant-loop-child
invariant-loop-child l = record {
  legal : IsTrue (is_page_size l.pages.size);
  laid : (nodes : List Node) → AreChildren l.inner l.fn.pages l.below nodes
      → IsLevelLaid l.inner l.level l.fn.pages l.pages l.above.items (take l.child-index nodes);
}
