use Rattle.std.proofs.Common.{◌+◌, ℕ, ◌∙◌}
use Rattle.std.proofs.Math.Nat.{add-sub_cancel_left}
use Rattle.bdb_layout.proofs.BlockLemmas.{no_end, no_room, too_short, whole_block}
use Rattle.bdb_layout.proofs.NumberLemmas.{to_end}
use Rattle.bdb_layout.proofs.blocks.first_block.Goals as goal
use Rattle.bdb_layout.proofs.blocks.first_block.Goals.{then-run-size-via-then-run-size, then-run-size-via-else-run-size+then-from-size}

pub returns-then-run-lt4-clause-block : goal.returns-then-run-lt4-clause-block
returns-then-run-lt4-clause-block c = too_short c.args.order c.args.run.now c.if-run-lt4.true

pub returns-then-run-size-clause-block : goal.returns-then-run-size-clause-block
returns-then-run-size-clause-block c =
    elim c.then-run-size.branch [
      | then-run-size-via-then-run-size w ↦ no_room c.args.order c.args.run.now c.from-size.result (c.from-size.ensures ∙ c.u16_at.ensures) w.if-run-size.true
      | then-run-size-via-else-run-size+then-from-size w ↦
          no_end c.args.order c.args.run.now c.from-size.result w.from.result (c.from-size.ensures ∙ c.u16_at.ensures)
          (w.from.ensures ∙ w.u16_at-else-run-size.ensures) w.if-from-size.true
    ]

pub returns-clause-block : goal.returns-clause-block
returns-clause-block c =
    let n : ℕ = c.from-size.result in
    rw (add-sub_cancel_left 2 n, to_end (n + 4) c.args.run.now)
    (whole_block c.args.order c.args.run.now n c.from.result (c.from-size.ensures ∙ c.u16_at.ensures) c.if-run-size.false
    (c.from.ensures ∙ c.u16_at-else-run-size.ensures) c.if-from-size.false)
