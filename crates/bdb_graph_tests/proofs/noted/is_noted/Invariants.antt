use Rattle.bdb_graph_tests.proofs.noted.is_noted.Given as goal

abbrev pub ghosts-is_noted_counted : goal.ghosts-is_noted_counted
ghosts-is_noted_counted a = record { name = a.blank.name; parts = a.blank.parts }
