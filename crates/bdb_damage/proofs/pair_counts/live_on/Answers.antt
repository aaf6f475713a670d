use Rattle.std.proofs.Common.{Bool, ℕ, arith, ap, cond}
use Rattle.std.specs.Prelude.{not}
use Rattle.bdb_apart.specs.of_survey.Slots.{slots_seen}
use Rattle.bdb_damage.specs.Tallies.{is_live_pair}
use Rattle.bdb_apart.proofs.of_format.ListLemmas.{sum_last}
use Rattle.bdb_damage.proofs.pair_counts.live_on.Goals as goal

-- One more.
pub loop-index-preserved : goal.loop-index-preserved
loop-index-preserved c = record {
  counted = omega (
    arith,
    c.loop-index.invariant.counted,
    c.one-count.ensures.value,
    ap {B = ℕ} (λ (b : Bool). cond (not b) 1 0) c.is_deleted.ensures,
    sum_last (λ i. cond (is_live_pair (slots_seen c.in-Some.slots) i) 1 0) c.loop-index.index,
  );
  few = omega (arith, c.loop-index.invariant.few, c.one-count.ensures.few);
}
