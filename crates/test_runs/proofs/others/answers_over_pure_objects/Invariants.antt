use Rattle.test_runs.proofs.others.answers_over_pure_objects.Given as goal

abbrev pub ghosts-pure_status : goal.ghosts-pure_status
ghosts-pure_status g a = record { name = a.blank.name; parts = a.blank.parts }
