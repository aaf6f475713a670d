use Rattle.std.proofs.Common.{◌≡◌, ℕ, arith, length}
use Rattle.bdb_apart.specs.of_rescue.Kept.{file_in}
use Rattle.bdb_apart.specs.Found.{found}
use Rattle.bdb_apart.specs.Given.{records_left_on}
use Rattle.bdb_damage.proofs.TotalLemmas.{rest_records_are}
use Rattle.bdb_damage.proofs.counts.rest_records.Goals as goal
use Rattle.bdb_apart.proofs.of_format.ListLemmas.{sum_last}

pub overflow_add-count : goal.overflow_add-count
overflow_add-count c =
    omega (
      arith,
      c.loop-page.invariant.few,
      c.left_on.ensures.few,
      c.loop-page-test.true,
      c.page_count-page-end.ensures.count,
      c.page_count-page-end.ensures.bounded.few,
    )

-- One page more.
pub loop-page-preserved : goal.loop-page-preserved
loop-page-preserved c = record {
  counted = omega (
    arith,
    c.loop-page.invariant.counted,
    c.left_on.ensures.left,
    sum_last (λ (p : ℕ). length (records_left_on (file_in c.args.apart.now) (found c.args.apart.now) p)) c.loop-page.page,
  );
  few = omega (arith, c.loop-page.invariant.few, c.left_on.ensures.few);
}

pub returns : goal.returns
returns c =
    let all : c.loop-page.page ≡ (file_in c.args.apart.now).count =
    omega (arith, c.loop-page-test.false, c.loop-page.auto.page-end, c.page_count-page-end.ensures.count) in
    rest_records_are c.args.apart.now c.loop-page.count c.loop-page.page all c.loop-page.invariant.counted
