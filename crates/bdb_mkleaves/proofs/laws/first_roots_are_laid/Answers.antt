use Rattle.bdb_mkleaves.proofs.GrownLaws.{first_roots_are_laid}
use Rattle.bdb_mkleaves.proofs.laws.first_roots_are_laid.Goals as goal

pub returns : goal.returns
returns c = first_roots_are_laid
