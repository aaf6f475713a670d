use Rattle.std.proofs.Common.{arith, inr}
use Rattle.bdb_tree.proofs.LinkLemmas.{root_within}
use Rattle.bdb_tree.proofs.first.dup_first.Goals as goal

pub prove-unreachable-requires : goal.prove-unreachable-requires
prove-unreachable-requires c =
    omega (arith, root_within c.args.linked.now c.head.result c.args.r c.head.ensures.head c.head.ensures.forest (inr c.requires))
