use Rattle.std.proofs.Common.{arith, ap, cond, ◌∙◌}
use Rattle.std.specs.List.{sum_by}
use Rattle.std.proofs.lemmas.List.{take_all}
use Rattle.bdb_apart.specs.of_rescue.declared.kept.KeptPair.{KeptPair}
use Rattle.bdb_damage.specs.Tallies.{is_kept_live}
use Rattle.bdb_damage.proofs.StepLemmas.{slice_more}
use Rattle.bdb_damage.proofs.pair_counts.live_kept.Goals as goal

-- One place more.
pub loop-pair-preserved : goal.loop-pair-preserved
loop-pair-preserved c = record {
  counted = omega (
    arith,
    c.loop-pair.invariant.counted,
    slice_more (λ (kept : KeptPair). cond (is_kept_live kept) 1 0) c.args.pairs.now c.loop-pair.pair-index c.one-count.result _ c.loop-pair-test.true
        c.one-count.ensures.value,
  );
  few = omega (arith, c.loop-pair.invariant.few, c.one-count.ensures.few);
}

pub returns : goal.returns
returns c =
    c.loop-pair.invariant.counted
    ∙ ap (sum_by (λ (kept : KeptPair). cond (is_kept_live kept) 1 0)) (take_all c.loop-pair.pair-index c.args.pairs.now c.loop-pair-test.false)
