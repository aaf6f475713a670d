use Rattle.std.proofs.Common.{arith, ap, length}
use Rattle.bdb_apart.specs.of_rescue.Kept.{file_in}
use Rattle.bdb_apart.proofs.of_rescue.KeptLemmas.{untaken_known}
use Rattle.bdb_damage.proofs.RoomLemmas.{untaken_few}
use Rattle.bdb_damage.proofs.record_counts.fit_from.Goals as goal

pub fit_among-requires-clause-known : goal.fit_among-requires-clause-known
fit_among-requires-clause-known c = untaken_known (file_in c.args.salvaged.now) c.args.page c.records_at.result.now c.records_at.ensures

pub fit_among-requires-clause-few : goal.fit_among-requires-clause-few
fit_among-requires-clause-few c =
    omega (arith, untaken_few c.args.salvaged.now c.args.page c.image-image.ensures.legal, ap (λ places. length places) c.records_at.ensures)
