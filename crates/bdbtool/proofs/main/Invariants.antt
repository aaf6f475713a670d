use Rattle.bdbtool.proofs.main.Given as goal

abbrev pub ghosts-run_counted : goal.ghosts-run_counted
ghosts-run_counted a = record { name = a.blank.name; parts = a.blank.parts }

abbrev pub ghosts-run_onto : goal.ghosts-run_onto
ghosts-run_onto a = record { name = a.blank.name; parts = a.blank.parts }
