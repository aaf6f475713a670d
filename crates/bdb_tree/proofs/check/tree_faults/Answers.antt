use Rattle.bdb_tree.proofs.check.tree_faults.Goals as goal

pub returns : goal.returns
returns c = c.note_trees.ensures
