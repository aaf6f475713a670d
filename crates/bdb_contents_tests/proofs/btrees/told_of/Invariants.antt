use Rattle.bdb_contents_tests.proofs.btrees.told_of.Given as goal

abbrev pub ghosts-told_blank : goal.ghosts-told_blank
ghosts-told_blank a = record { name = a.blank.name; parts = a.blank.parts }
