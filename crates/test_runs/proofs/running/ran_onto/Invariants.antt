use Rattle.test_runs.proofs.running.ran_onto.Given as goal

abbrev pub ghosts-run_onto : goal.ghosts-run_onto
ghosts-run_onto g a = record { name = a.blank.name; parts = a.blank.parts }
