use Rattle.bdb_law_join.proofs.WrittenLemmas.{written_trees_are_sound}
use Rattle.bdb_law_join.proofs.laws.written_trees_are_sound.Goals as goal

pub returns : goal.returns
returns c = written_trees_are_sound
