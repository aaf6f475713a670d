use Rattle.bdb_real_tests.proofs.reals.is_as_dumped.Given as goal

abbrev pub ghosts-holds_counted : goal.ghosts-holds_counted
ghosts-holds_counted a = record { name = a.blank.name; parts = a.blank.parts }
