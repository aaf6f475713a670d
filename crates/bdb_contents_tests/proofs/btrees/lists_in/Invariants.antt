use Rattle.bdb_contents_tests.proofs.btrees.lists_in.Given as goal

abbrev pub ghosts-lists_blank : goal.ghosts-lists_blank
ghosts-lists_blank a = record { name = a.blank.name; parts = a.blank.parts }
