use Rattle.bdb_file_tests.proofs.judging.verdict_told.Given as goal

abbrev pub ghosts-verdict_blank : goal.ghosts-verdict_blank
ghosts-verdict_blank a = record { name = a.blank.name; parts = a.blank.parts }
