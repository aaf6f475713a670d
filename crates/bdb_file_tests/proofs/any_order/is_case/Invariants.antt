use Rattle.bdb_file_tests.proofs.any_order.is_case.Given as goal

abbrev pub ghosts-is_named : goal.ghosts-is_named
ghosts-is_named a = record { name = a.blank.name; parts = a.blank.parts }
