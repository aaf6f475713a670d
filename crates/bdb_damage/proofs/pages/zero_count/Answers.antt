use Rattle.std.proofs.Common.{◌≡◌, Bool, ℕ, arith, ap, cond}
use Rattle.bdb_apart.specs.of_rescue.Kept.{Reading, file_in}
use Rattle.bdb_damage.specs.Tallies.{is_zero_above}
use Rattle.bdb_damage.proofs.TotalLemmas.{zero_pages_are}
use Rattle.bdb_damage.proofs.pages.zero_count.Goals as goal
use Rattle.bdb_apart.proofs.of_format.ListLemmas.{sum_last}

-- One page more.
pub loop-page-preserved : goal.loop-page-preserved
loop-page-preserved c = record {
  counted = omega (
    arith,
    c.loop-page.invariant.counted,
    c.one-zeros.ensures.value,
    ap {B = ℕ} (λ (b : Bool). cond b 1 0) c.is_zero_above.ensures,
    ap {B = ℕ} (λ (r : Reading). cond (is_zero_above r c.loop-page.page) 1 0) c.salvaged-salvaged.ensures,
    sum_last (λ p. cond (is_zero_above c.args.apart.now p) 1 0) c.loop-page.page,
  );
  few = omega (arith, c.loop-page.invariant.few, c.one-zeros.ensures.few);
}

pub returns : goal.returns
returns c =
    let all : c.loop-page.page ≡ (file_in c.args.apart.now).count =
    omega (arith, c.loop-page-test.false, c.loop-page.auto.page-end, c.count-page-end.ensures) in
    zero_pages_are c.args.apart.now c.loop-page.zeros c.loop-page.page all c.loop-page.invariant.counted
