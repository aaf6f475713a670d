use Rattle.bdb_law_sections.proofs.SectionLemmas.{read_sections_are_fit}
use Rattle.bdb_law_sections.proofs.laws.read_sections_are_fit.Goals as goal

pub returns : goal.returns
returns c = read_sections_are_fit
