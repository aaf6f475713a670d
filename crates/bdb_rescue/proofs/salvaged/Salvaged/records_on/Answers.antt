use Rattle.bdb_rescue.specs.Kept.{file_in}
use Rattle.bdb_rescue.proofs.KeptLemmas.{untaken_known}
use Rattle.bdb_rescue.proofs.salvaged.Salvaged.records_on.Goals as goal

pub over-requires : goal.over-requires
over-requires c = untaken_known (file_in c.args.self.now) c.args.page c.records_at.result.now c.records_at.ensures
