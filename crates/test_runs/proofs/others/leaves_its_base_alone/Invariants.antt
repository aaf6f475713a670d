use Rattle.test_runs.proofs.others.leaves_its_base_alone.Given as goal

abbrev pub ghosts-status_beside : goal.ghosts-status_beside
ghosts-status_beside g a = record { name = a.blank.name; parts = a.blank.parts }
