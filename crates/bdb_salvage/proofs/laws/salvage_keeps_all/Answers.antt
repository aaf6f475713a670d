use Rattle.bdb_salvage.proofs.ToldLemmas.{salvage_keeps_all as law}
use Rattle.bdb_salvage.proofs.laws.salvage_keeps_all.Goals as goal

pub returns : goal.returns
returns c = law
