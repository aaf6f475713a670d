use Rattle.bdb_law_grove.proofs.ShareLemmas.{keeps_faces}
use Rattle.bdb_law_grove.proofs.laws.grove_keeps_faces.Goals as goal

pub returns : goal.returns
returns c = keeps_faces
