use Rattle.std.proofs.Common.{arith, ap, length}
use Rattle.bdb_damage.proofs.RoomLemmas.{untaken_few}
use Rattle.bdb_damage.proofs.record_counts.untaken_on.Goals as goal

pub overflow_cast-result : goal.overflow_cast-result
overflow_cast-result c =
    omega (
      arith,
      untaken_few c.args.salvaged.now c.args.page c.image-image.ensures.legal,
      ap (λ places. length places) c.records_at.ensures,
    )
