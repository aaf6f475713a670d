use Rattle.std.proofs.Common.{ℕ, ◌+◌, ◌*◌, arith, ◌<◌, ◌≡◌, get_or}
use Rattle.std.proofs.lemmas.List.FromFn.{fill_by_all}
use Rattle.bdb_layout.specs.of_format.Terms.{four_at}
use Rattle.bdb_meta.proofs.table.spares.Goals as goal

pub returns : goal.returns
returns c =
    let below : (k : ℕ) → k < 32 → get_or c.loop-group.spare-items k 0 ≡ four_at c.args.order c.args.page.now (96 + 4 * k) = λ k h. c.loop-group.invariant k
    (omega arith) in
    fill_by_all (λ k. four_at c.args.order c.args.page.now (96 + 4 * k)) c.loop-group.spare-items 32 0 (omega arith) below
