use Rattle.bdb_contents_tests.proofs.queues.is_as_expected.Given as goal

abbrev pub ghosts-holds_counted : goal.ghosts-holds_counted
ghosts-holds_counted a = record { name = a.blank.name; parts = a.blank.parts }
