use Rattle.bdb_apart.proofs.PartLemmas.{each_record}
use Rattle.bdb_apart.proofs.laws.each_record_is_in_one_part.Goals as goal

pub returns : goal.returns
returns c = each_record
