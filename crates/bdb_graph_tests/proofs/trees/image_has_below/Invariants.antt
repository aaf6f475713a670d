use Rattle.bdb_graph_tests.proofs.trees.image_has_below.Given as goal

abbrev pub ghosts-below_counted : goal.ghosts-below_counted
ghosts-below_counted a = record { name = a.blank.name; parts = a.blank.parts }
