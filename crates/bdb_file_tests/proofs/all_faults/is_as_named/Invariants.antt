use Rattle.bdb_file_tests.proofs.all_faults.is_as_named.Given as goal

abbrev pub ghosts-names_counted : goal.ghosts-names_counted
ghosts-names_counted a = record { name = a.blank.name; parts = a.blank.parts }
