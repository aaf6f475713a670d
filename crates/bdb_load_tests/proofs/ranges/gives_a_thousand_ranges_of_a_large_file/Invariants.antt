use Rattle.bdb_load_tests.proofs.ranges.gives_a_thousand_ranges_of_a_large_file.Given as goal

abbrev pub ghosts-image_has_ranges : goal.ghosts-image_has_ranges
ghosts-image_has_ranges a b = record { name = b.blank.name; parts = b.blank.parts }
