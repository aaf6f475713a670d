use Rattle.bdb_graph_tests.proofs.linking.told_by.Given as goal

abbrev pub ghosts-told_counted : goal.ghosts-told_counted
ghosts-told_counted a = record { name = a.blank.name; parts = a.blank.parts }
