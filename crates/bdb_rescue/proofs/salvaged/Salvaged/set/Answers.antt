use Rattle.bdb_rescue.specs.Kept.{file_in}
use Rattle.bdb_rescue.proofs.KeptLemmas.{all_in_set}
use Rattle.bdb_rescue.proofs.salvaged.Salvaged.set.Goals as goal

pub over-requires : goal.over-requires
over-requires c = all_in_set (file_in c.args.self.now) c.args.leaf c.places_in.result.now c.places_in.ensures
