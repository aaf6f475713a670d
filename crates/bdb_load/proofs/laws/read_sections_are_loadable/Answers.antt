use Rattle.bdb_onto.proofs.of_mkfile.ReadLemmas.{read_sections_are_loadable}
use Rattle.bdb_load.proofs.laws.read_sections_are_loadable.Goals as goal

pub returns : goal.returns
returns c = read_sections_are_loadable
