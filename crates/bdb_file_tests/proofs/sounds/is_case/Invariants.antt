use Rattle.bdb_file_tests.proofs.sounds.is_case.Given as goal

abbrev pub ghosts-is_told_blank : goal.ghosts-is_told_blank
ghosts-is_told_blank a = record { name = a.blank.name; parts = a.blank.parts }
