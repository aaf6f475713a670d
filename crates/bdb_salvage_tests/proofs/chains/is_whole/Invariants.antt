use Rattle.bdb_salvage_tests.proofs.chains.is_whole.Given as goal

abbrev pub ghosts-value : goal.ghosts-value
ghosts-value a = record { name = a.blank.name; parts = a.blank.parts }
