use Rattle.std.proofs.Common.{◌<◌, ap, arith, length}
use Rattle.bdb_need.proofs.FirstsLemmas.{all_kept, firsts_begun, next_begins, next_fits}
use Rattle.bdb_need.proofs.levels.keep_firsts.Goals as goal
use Rattle.bdb_need.proofs.levels.keep_firsts.Goals.{then-from-left, else-from-left}

pub index-cost-requires : goal.index-cost-requires
index-cost-requires c = omega (arith, c.loop-at-test.true, c.len-at-end.ensures, c.args.items.now.ok.0, c.loop-at.invariant.long, c.loop-at.items.ok.0)

pub index_mut-requires : goal.index_mut-requires
index_mut-requires c =
    let before = c.loop-at.invariant in
    omega (arith, c.loop-at-test.true, c.len-at-end.ensures, c.args.items.now.ok.0, before.long, c.loop-at.items.ok.0, before.low)

pub loop-at-init : goal.loop-at-init
loop-at-init c = firsts_begun c.args.room c.args.items.now.items

pub loop-at-preserved : goal.loop-at-preserved
loop-at-preserved c =
    let before = c.loop-at.invariant in
    let within : c.loop-at.at < length c.loop-at.items.items =
    omega (arith, c.loop-at-test.true, c.len-at-end.ensures, c.args.items.now.ok.0, before.long) in
    let cost = c.index-cost.result.now in
    elim c.if-from-left.branch [
      | then-from-left w ↦
          next_fits c.args.room c.loop-at.left c.if-from-left.left c.loop-at.kept c.if-from-left.kept c.loop-at.at cost c.loop-at.items.items
          c.if-from-left.items.items c.args.items.now.items before within c.index-cost.ensures (omega (arith, w.if-from-left.true, c.from.ensures))
          (omega (arith, w.left-is, w.from-left.ensures)) w.kept-is (ap (λ v. v.items) w.items-is)
      | else-from-left w ↦
          next_begins c.args.room c.loop-at.left c.if-from-left.left c.loop-at.kept c.if-from-left.kept c.loop-at.at cost c.loop-at.items.items
          c.if-from-left.items.items c.args.items.now.items before within c.index-cost.ensures (omega (arith, w.if-from-left.false, c.from.ensures))
          w.left-is w.kept-is (ap (λ v. v.items) w.items-is)
    ]

pub returns : goal.returns
returns c =
    all_kept c.args.room c.loop-at.left c.loop-at.kept c.loop-at.at c.loop-at.items.items c.args.items.now.items c.truncate.new.self.items
    c.loop-at.invariant (omega (arith, c.loop-at-test.false, c.len-at-end.ensures, c.args.items.now.ok.0, c.loop-at.invariant.long))
    c.truncate.ensures.items
