use Rattle.test_lists.proofs.judging.gives.Given as goal

abbrev pub ghosts-gives_blank : goal.ghosts-gives_blank
ghosts-gives_blank a = record { name = a.blank.name; parts = a.blank.parts }
