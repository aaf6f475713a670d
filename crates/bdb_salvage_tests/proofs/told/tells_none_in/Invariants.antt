use Rattle.bdb_salvage_tests.proofs.told.tells_none_in.Given as goal

abbrev pub ghosts-refuses : goal.ghosts-refuses
ghosts-refuses a = record { name = a.blank.name; parts = a.blank.parts }
