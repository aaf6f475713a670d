use Rattle.std.proofs.Common.{subst, All}
use Rattle.bdb_rescue.specs.Gathered.{InHand}
use Rattle.bdb_rescue.specs.Kept.{IsKeptValue, file_in}
use Rattle.bdb_rescue.proofs.KeptLemmas.{untaken_known}
use Rattle.bdb_rescue.proofs.gathered.Gatherer.push_records_on.Goals as goal

pub push_records-requires : goal.push_records-requires
push_records-requires c =
    subst (λ (it : InHand). All (IsKeptValue (file_in it.reading)) c.records_at-places.result.now) c.self.view_is
    (untaken_known (file_in c.self.inside.salvaged.now) c.args.page c.records_at-places.result.now c.records_at-places.ensures)
