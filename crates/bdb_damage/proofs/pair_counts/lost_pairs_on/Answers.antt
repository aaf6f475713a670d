use Rattle.std.proofs.Common.{arith, ap, length}
use Rattle.std.specs.List.{count_by}
use Rattle.bdb_apart.specs.of_rescue.Kept.{file_in}
use Rattle.bdb_damage.specs.Tallies.{is_kept_live}
use Rattle.bdb_damage.proofs.RoomLemmas.{kept_few}
use Rattle.bdb_damage.proofs.TallyLemmas.{lost_pairs_are}
use Rattle.bdb_damage.proofs.pair_counts.lost_pairs_on.Goals as goal

pub live_kept-requires : goal.live_kept-requires
live_kept-requires c =
    omega (arith, kept_few c.args.salvaged.now c.args.page c.image-image.ensures.legal, ap (λ pairs. length pairs) c.pairs_at.ensures)

pub overflow_sub-result : goal.overflow_sub-result
overflow_sub-result c =
    omega (
      arith,
      c.live_on-live.ensures,
      c.live_kept.ensures,
      ap (count_by is_kept_live) c.pairs_at.ensures,
      lost_pairs_are (file_in c.args.salvaged.now) c.args.page,
    )

pub returns : goal.returns
returns c =
    omega (
      arith,
      c.live_on-live.ensures,
      c.live_kept.ensures,
      ap (count_by is_kept_live) c.pairs_at.ensures,
      lost_pairs_are (file_in c.args.salvaged.now) c.args.page,
    )
