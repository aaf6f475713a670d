use Rattle.bdb_tree.proofs.LinkLemmas.{pages_of_tree}
use Rattle.bdb_tree.proofs.links.leaves.Goals as goal

-- From the first page on the walk follows next pages, and these are the leaves after it.
pub returns-clause-tree : goal.returns-clause-tree
returns-clause-tree c = λ root before after is same.
    rw (c.over.ensures, c.forest.ensures, c.number-2.ensures)
    (pages_of_tree c.args.linked.now c.args.first root before after c.head.ensures.forest c.requires.stage is same)
