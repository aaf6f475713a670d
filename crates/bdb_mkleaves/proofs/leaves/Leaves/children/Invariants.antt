use Rattle.bdb_mkleaves.proofs.Common.{◌≡◌, List, take, leaf_children, Entry, AreLinked, numbers_of}
use Rattle.bdb_mkleaves.proofs.leaves.Leaves.children.Given as goal

-- The children so far are those of the closed leaves passed.
abbrev pub invariant-loop-leaf : goal.invariant-loop-leaf
invariant-loop-leaf l =
    (all : List (List Entry)) → AreLinked l.self l.pages all
    → l.children.items ≡ take l.leaf-index (leaf_children l.self.leaf_type l.counted (numbers_of l.self) all)
