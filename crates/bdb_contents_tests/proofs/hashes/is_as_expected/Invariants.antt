use Rattle.bdb_contents_tests.proofs.hashes.is_as_expected.Given as goal

abbrev pub ghosts-is_so_counted : goal.ghosts-is_so_counted
ghosts-is_so_counted a = record { name = a.blank.name; parts = a.blank.parts }
