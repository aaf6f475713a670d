use Rattle.std.proofs.Common.{Bool, arith, ap, cond, ℕ, ◌∙◌}
use Rattle.std.specs.List.{sum_by}
use Rattle.std.proofs.lemmas.List.{take_all}
use Rattle.bdb_apart.specs.of_rescue.Kept.{file_in}
use Rattle.bdb_apart.specs.of_rescue.declared.kept.KeptValue.{KeptValue}
use Rattle.bdb_damage.specs.Tallies.{is_fit_at}
use Rattle.bdb_damage.proofs.StepLemmas.{slice_more}
use Rattle.bdb_damage.proofs.record_counts.fit_among.Goals as goal

pub is_fit-requires : goal.is_fit-requires
is_fit-requires c =
    c.requires.known c.loop-place.place-index _ c.loop-place-test.true

-- One place more.
pub loop-place-preserved : goal.loop-place-preserved
loop-place-preserved c = record {
  counted = omega (
    arith,
    c.loop-place.invariant.counted,
    slice_more (λ (place : KeptValue). cond (is_fit_at (file_in c.args.salvaged.now) c.args.holds c.args.start place) 1 0) c.args.places.now
        c.loop-place.place-index c.one-count.result _ c.loop-place-test.true
        (c.one-count.ensures.value ∙ ap {B = ℕ} (λ (b : Bool). cond b 1 0) c.is_fit.ensures),
  );
  few = omega (arith, c.loop-place.invariant.few, c.one-count.ensures.few);
}

pub returns : goal.returns
returns c =
    c.loop-place.invariant.counted
    ∙ ap (sum_by (λ (place : KeptValue). cond (is_fit_at (file_in c.args.salvaged.now) c.args.holds c.args.start place) 1 0))
    (take_all c.loop-place.place-index c.args.places.now c.loop-place-test.false)
