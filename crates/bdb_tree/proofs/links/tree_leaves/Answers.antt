use Rattle.std.proofs.Common.{arith}
use Rattle.bdb_tree.proofs.LinkLemmas.{root_within}
use Rattle.bdb_tree.proofs.links.tree_leaves.Goals as goal

pub prove-unreachable-requires : goal.prove-unreachable-requires
prove-unreachable-requires c =
    omega (arith, root_within c.args.forest.now c.head.result c.args.root c.head.ensures.head c.head.ensures.forest c.requires.root)
