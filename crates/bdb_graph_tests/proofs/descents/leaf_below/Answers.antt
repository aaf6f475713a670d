use Rattle.std.proofs.Common.{arith, subst}
use Rattle.bdb_graph_tests.specs.Sought.{IsFit}
use Rattle.test_images.proofs.of_tree.DescentLemmas.{internal_inside}
use Rattle.bdb_graph_tests.proofs.descents.leaf_below.Goals as goal

-- Each internal page is fit.
pub descend_by-requires-clause-monotone : goal.descend_by-requires-clause-monotone
descend_by-requires-clause-monotone g c = λ p page inner is.
    subst (IsFit c.args.key.now) is (c.if-not-are_fit.ensures p (omega (arith, internal_inside c.args.linked.now p page is)))
