use Rattle.std.proofs.Common.{arith, ap, length, sym, ◌∙◌}
use Rattle.std.specs.List.{sum_by}
use Rattle.std.proofs.lemmas.List.{take_all}
use Rattle.bdb_apart.specs.of_rescue.Kept.{file_in, given_live}
use Rattle.bdb_apart.specs.of_rescue.declared.kept.KeptPair.{KeptPair}
use Rattle.bdb_damage.proofs.StepLemmas.{joined_sum, slice_more, slice_most}
use Rattle.bdb_damage.proofs.pair_counts.count_among.Goals as goal

pub live_count-count-requires : goal.live_count-count-requires
live_count-count-requires c =
    c.requires.known c.loop-pair.pair-index _ c.loop-pair-test.true

pub overflow_add-count : goal.overflow_add-count
overflow_add-count c =
    omega (
      arith,
      c.loop-pair.invariant,
      slice_most (λ (kept : KeptPair). length (given_live (file_in c.args.salvaged.now) kept)) c.args.pairs.now c.loop-pair.pair-index
          c.live_count-count.result _ c.loop-pair-test.true c.live_count-count.ensures,
      joined_sum (given_live (file_in c.args.salvaged.now)) c.args.pairs.now,
      c.requires.few,
    )

-- One pair more.
pub loop-pair-preserved : goal.loop-pair-preserved
loop-pair-preserved c =
    omega (
      arith,
      c.loop-pair.invariant,
      slice_more (λ (kept : KeptPair). length (given_live (file_in c.args.salvaged.now) kept)) c.args.pairs.now c.loop-pair.pair-index
          c.live_count-count.result _ c.loop-pair-test.true c.live_count-count.ensures,
    )

pub returns : goal.returns
returns c =
    c.loop-pair.invariant
    ∙ (ap (sum_by (λ (kept : KeptPair). length (given_live (file_in c.args.salvaged.now) kept)))
    (take_all c.loop-pair.pair-index c.args.pairs.now c.loop-pair-test.false)
    ∙ sym (joined_sum (given_live (file_in c.args.salvaged.now)) c.args.pairs.now))
