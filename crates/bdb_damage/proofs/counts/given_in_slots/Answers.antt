use Rattle.std.proofs.Common.{ℕ, List, arith, ap, length, subst}
use Rattle.bdb_apart.specs.of_rescue.Kept.{Reading}
use Rattle.bdb_damage.specs.Tallies.{IsBounded}
use Rattle.bdb_damage.proofs.TotalLemmas.{queue_few}
use Rattle.bdb_damage.proofs.counts.given_in_slots.Goals as goal

pub overflow_add-count : goal.overflow_add-count
overflow_add-count c =
    let reading : Reading = c.args.database.now.reading in
    let bounded : IsBounded reading = subst IsBounded c.apart.ensures c.page_count-pages.ensures.bounded in
    omega (
      arith,
      c.loop-record.invariant,
      ap (λ (xs : List (ℕ × List ℕ)). length xs) c.in-Some.ensures.steps,
      queue_few c.args.database.now c.holds-known.ensures.known c.requires bounded.legal bounded.few,
    )
