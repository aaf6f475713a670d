use Rattle.bdb_graph_tests.proofs.descents.leaf_of.Given as goal

abbrev pub ghosts-leaf_counted : goal.ghosts-leaf_counted
ghosts-leaf_counted a = record { name = a.blank.name; parts = a.blank.parts }
