use Rattle.bdb_salvage_tests.proofs.told.is_so.Given as goal

abbrev pub ghosts-gives : goal.ghosts-gives
ghosts-gives a = record { name = a.blank.name; parts = a.blank.parts }
