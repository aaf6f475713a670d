use Rattle.bdb_mkfile.proofs.WrittenLemmas.{written_tables_are_sound}
use Rattle.bdb_mkfile.proofs.laws.written_tables_are_sound.Goals as goal

pub returns : goal.returns
returns c = written_tables_are_sound
