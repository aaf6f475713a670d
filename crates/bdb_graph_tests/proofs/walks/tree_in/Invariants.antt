use Rattle.bdb_graph_tests.proofs.walks.tree_in.Given as goal

abbrev pub ghosts-counted_leaves : goal.ghosts-counted_leaves
ghosts-counted_leaves a = record { name = a.blank.name; parts = a.blank.parts }
