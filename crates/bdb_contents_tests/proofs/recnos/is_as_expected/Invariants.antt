use Rattle.bdb_contents_tests.proofs.recnos.is_as_expected.Given as goal

abbrev pub ghosts-holds_blank : goal.ghosts-holds_blank
ghosts-holds_blank a = record { name = a.blank.name; parts = a.blank.parts }
