use Rattle.bdb_contents_tests.proofs.lookups.has_list.Given as goal

abbrev pub ghosts-agrees_blank : goal.ghosts-agrees_blank
ghosts-agrees_blank a = record { name = a.blank.name; parts = a.blank.parts }
