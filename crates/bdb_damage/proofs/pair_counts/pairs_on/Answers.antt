use Rattle.std.proofs.Common.{arith, ap, length, ◌∙◌}
use Rattle.std.specs.List.{flat_map}
use Rattle.bdb_apart.specs.of_rescue.Kept.{file_in, given_live}
use Rattle.bdb_apart.proofs.of_rescue.KeptLemmas.{pairs_on}
use Rattle.bdb_apart.proofs.of_rescue.StoredLemmas.{stored_on_is}
use Rattle.bdb_damage.proofs.RoomLemmas.{stored_few}
use Rattle.bdb_damage.proofs.pair_counts.pairs_on.Goals as goal

pub count_among-requires-clause-known : goal.count_among-requires-clause-known
count_among-requires-clause-known c = pairs_on (file_in c.args.salvaged.now) c.args.page c.pairs_at.result.now c.pairs_at.ensures c.requires

pub count_among-requires-clause-few : goal.count_among-requires-clause-few
count_among-requires-clause-few c =
    omega (
      arith,
      ap (λ pairs. length (flat_map (given_live (file_in c.args.salvaged.now)) pairs)) c.pairs_at.ensures,
      ap (λ pairs. length pairs) (stored_on_is (file_in c.args.salvaged.now) c.args.page),
      stored_few c.args.salvaged.now c.args.page c.image-image.ensures.legal c.image-image.ensures.small,
    )

pub returns-clause-count : goal.returns-clause-count
returns-clause-count c =
    c.count_among.ensures
    ∙ (ap (λ pairs. length (flat_map (given_live (file_in c.args.salvaged.now)) pairs)) c.pairs_at.ensures
    ∙ ap (λ pairs. length pairs) (stored_on_is (file_in c.args.salvaged.now) c.args.page))

pub returns-clause-few : goal.returns-clause-few
returns-clause-few c =
    omega (
      arith,
      c.count_among.ensures,
      ap (λ pairs. length (flat_map (given_live (file_in c.args.salvaged.now)) pairs)) c.pairs_at.ensures,
      ap (λ pairs. length pairs) (stored_on_is (file_in c.args.salvaged.now) c.args.page),
      stored_few c.args.salvaged.now c.args.page c.image-image.ensures.legal c.image-image.ensures.small,
    )
