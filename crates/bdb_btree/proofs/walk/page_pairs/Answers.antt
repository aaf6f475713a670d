use Rattle.bdb_ranks.specs.of_format.Terms.{file_of}
use Rattle.bdb_ranks.proofs.of_tree.TreeLemmas.{leaf_inside}
use Rattle.bdb_btree.proofs.WalkLemmas.{keys_fit, no_pairs, view_pairs}
use Rattle.bdb_btree.proofs.walk.page_pairs.Goals as goal

pub page-requires : goal.page-requires
page-requires c = leaf_inside c.args.forest.now c.args.page c.requires

pub invariant_of-result : goal.invariant_of-result
invariant_of-result c =
    rw (c.again.ensures, c.iter.ensures) (keys_fit c.args.forest.now c.args.page c.in-Leaf.leaf c.page.ensures.forest c.requires c.in-Leaf.ensures.page)

pub returns-in-Leaf-clause-pairs : goal.returns-in-Leaf-clause-pairs
returns-in-Leaf-clause-pairs c =
    rw (c.again.ensures, c.iter.ensures) (view_pairs (file_of c.args.forest.now) c.args.page c.in-Leaf.leaf c.in-Leaf.ensures.page)

pub returns-in_default-clause-pairs : goal.returns-in_default-clause-pairs
returns-in_default-clause-pairs c =
    no_pairs c.args.forest.now c.args.page c.page.result c.page.ensures.forest c.requires c.page.ensures.page c.in_default.not-Leaf
