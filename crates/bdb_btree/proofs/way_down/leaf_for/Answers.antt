use Rattle.bdb_ranks.specs.of_format.Terms.{file_of}
use Rattle.bdb_btree.proofs.FindLemmas.{all_separated, keys_monotone, keys_readable, root_typed}
use Rattle.bdb_btree.proofs.way_down.leaf_for.Goals as goal

-- The handle and the root's number are those of the linked image and of its metadata.
pub descend_in-requires-clause-keyed : goal.descend_in-requires-clause-keyed
descend_in-requires-clause-keyed g c =
    rw (c.forest-forest.ensures, c.number.ensures, c.root.ensures.number)
    (root_typed c.args.linked.now c.args.meta.now c.root.ensures.forest c.requires.meta c.requires.keys)

pub descend_in-requires-clause-readable : goal.descend_in-requires-clause-readable
descend_in-requires-clause-readable g c =
    rw (c.forest-forest.ensures, c.number.ensures, c.root.ensures.number)
    (keys_readable c.args.linked.now c.args.meta.now.root c.root.ensures.forest)

-- No row of separators holds.
pub descend_in-requires-clause-monotone : goal.descend_in-requires-clause-monotone
descend_in-requires-clause-monotone g c =
    rw (c.forest-forest.ensures, c.number.ensures, c.root.ensures.number)
    (keys_monotone (file_of c.args.linked.now) c.args.key.now c.args.meta.now.root
    (all_separated c.args.linked.now c.args.meta.now c.requires.keys c.requires.contents))
