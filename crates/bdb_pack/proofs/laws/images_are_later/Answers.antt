use Rattle.bdb_pack.proofs.ImageLemmas.{images_are_later}
use Rattle.bdb_pack.proofs.laws.images_are_later.Goals as goal

pub returns : goal.returns
returns c = images_are_later
