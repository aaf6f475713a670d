use Rattle.bdb_contents_tests.proofs.ranges.finds_the_leaves_and_pairs_of_ranges.Given as goal

abbrev pub ghosts-agrees_counted : goal.ghosts-agrees_counted
ghosts-agrees_counted a b = record { name = b.blank.name; parts = b.blank.parts }
