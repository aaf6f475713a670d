use Rattle.bdb_repair.proofs.salvaging.salvage_uncounted.Given as goal

abbrev pub ghosts-salvage_on : goal.ghosts-salvage_on
ghosts-salvage_on a = record { name = a.blank.name; parts = a.blank.parts }
