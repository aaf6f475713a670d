use Rattle.bdb_load_tests.proofs.trials.lines.Given as goal

abbrev pub ghosts-lines_blank : goal.ghosts-lines_blank
ghosts-lines_blank a = record { name = a.blank.name; parts = a.blank.parts }
