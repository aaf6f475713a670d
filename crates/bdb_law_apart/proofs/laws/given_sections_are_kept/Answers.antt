use Rattle.bdb_law_apart.proofs.SectionLemmas.{given_sections_are_kept}
use Rattle.bdb_law_apart.proofs.laws.given_sections_are_kept.Goals as goal

pub returns : goal.returns
returns c = given_sections_are_kept
