use Rattle.std.proofs.Common.{◌≡◌, ◌+◌, ◌≤◌, ◌^◌, ℕ, arith, length}
use Rattle.std.specs.List.{range_with_len}
use Rattle.bdb_apart.specs.of_rescue.Kept.{file_in}
use Rattle.bdb_apart.specs.Found.{found}
use Rattle.bdb_apart.specs.Given.{pairs_left_on}
use Rattle.bdb_damage.specs.Tallies.{IsBounded}
use Rattle.bdb_damage.proofs.RoomLemmas.{left_few}
use Rattle.bdb_damage.proofs.StepLemmas.{joined_sum}
use Rattle.bdb_damage.proofs.TotalLemmas.{rest_pairs_are}
use Rattle.bdb_damage.proofs.counts.rest_pairs.Goals as goal
use Rattle.bdb_apart.proofs.of_format.ListLemmas.{sum_last}

pub overflow_add-count : goal.overflow_add-count
overflow_add-count c =
    let bounded : IsBounded c.args.apart.now = c.page_count-page-end.ensures.bounded in
    let few : c.loop-page.page + 1 ≤ 2 ^ 21 =
    omega (arith, c.loop-page-test.true, c.page_count-page-end.ensures.count, bounded.few) in
    omega (
      arith,
      c.loop-page.invariant,
      c.pairs_left_on-count.ensures,
      sum_last (λ (p : ℕ). length (pairs_left_on (file_in c.args.apart.now) (found c.args.apart.now) p)) c.loop-page.page,
      joined_sum (pairs_left_on (file_in c.args.apart.now) (found c.args.apart.now)) (range_with_len 0 (c.loop-page.page + 1)),
      left_few c.args.apart.now (c.loop-page.page + 1) bounded.legal bounded.small few,
    )

-- One page more.
pub loop-page-preserved : goal.loop-page-preserved
loop-page-preserved c =
    omega (
      arith,
      c.loop-page.invariant,
      c.pairs_left_on-count.ensures,
      sum_last (λ (p : ℕ). length (pairs_left_on (file_in c.args.apart.now) (found c.args.apart.now) p)) c.loop-page.page,
    )

pub returns : goal.returns
returns c =
    let all : c.loop-page.page ≡ (file_in c.args.apart.now).count =
    omega (arith, c.loop-page-test.false, c.loop-page.auto.page-end, c.page_count-page-end.ensures.count) in
    rest_pairs_are c.args.apart.now c.loop-page.count c.loop-page.page all c.loop-page.invariant
