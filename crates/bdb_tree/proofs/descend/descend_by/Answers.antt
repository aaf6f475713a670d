use Rattle.bdb_tree.proofs.descend.descend_by.Goals as goal

pub descend_in-requires-clause-monotone : goal.descend_in-requires-clause-monotone
descend_in-requires-clause-monotone g c = rw (c.forest.ensures, c.number.ensures) c.requires.monotone
