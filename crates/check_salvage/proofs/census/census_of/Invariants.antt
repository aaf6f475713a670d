use Rattle.check_salvage.proofs.census.census_of.Given as goal

abbrev pub ghosts-told_by : goal.ghosts-told_by
ghosts-told_by a = record { name = a.blank.name; parts = a.blank.parts }
