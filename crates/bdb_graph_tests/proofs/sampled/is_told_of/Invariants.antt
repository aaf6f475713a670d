use Rattle.bdb_graph_tests.proofs.sampled.is_told_of.Given as goal

abbrev pub ghosts-is_told_counted : goal.ghosts-is_told_counted
ghosts-is_told_counted a = record { name = a.blank.name; parts = a.blank.parts }
