use Rattle.std.proofs.Common.{◌∙◌, ap, arith, sym}
use Rattle.std.proofs.lemmas.Bool.{eqb-false}
use Rattle.bdb_settle.proofs.PlaceLemmas.{passed_with, starts_with, stays_with}
use Rattle.bdb_settle.proofs.settling.settle_sorted.Goals as goal
use Rattle.bdb_settle.proofs.settling.settle_sorted.Goals.{then-keeps_both, else-keeps_both}

pub loop-i-init : goal.loop-i-init
loop-i-init c =
    starts_with c.args.settings.now c.args.bytes.now c.args.places.now.items c.index.result.now c.unlined-last.result
    (let some = eqb-false _ _ (sym c.is_empty.ensures ∙ c.if-is_empty.false) in omega (arith, some, c.args.places.now.ok)) c.requires.sorted c.requires.placed
    c.index.ensures c.unlined-last.ensures

pub loop-i-preserved : goal.loop-i-preserved
loop-i-preserved c =
    elim c.if-keeps_both.branch [
      | then-keeps_both w ↦
          stays_with c.args.settings.now c.args.bytes.now c.args.places.now.items c.loop-i.places.items c.if-keeps_both.places.items c.loop-i.kept
          c.if-keeps_both.kept c.loop-i.last c.index-in-loop-i.result.now c.unlined-place.result c.loop-i.i c.loop-i.invariant
          (omega (arith, c.loop-i-test.true, c.len-i-end.ensures, c.args.places.now.ok)) c.index-in-loop-i.ensures c.unlined-place.ensures
          (sym c.keeps_both.ensures ∙ w.if-keeps_both.true) (ap (λ v. v.items) w.places-is) w.kept-is
      | else-keeps_both w ↦
          passed_with c.args.settings.now c.args.bytes.now c.args.places.now.items c.loop-i.places.items c.if-keeps_both.places.items c.loop-i.kept
          c.if-keeps_both.kept c.loop-i.last c.index-in-loop-i.result.now c.unlined-place.result c.loop-i.i c.loop-i.invariant
          (omega (arith, c.loop-i-test.true, c.len-i-end.ensures, c.args.places.now.ok)) c.index-in-loop-i.ensures c.unlined-place.ensures
          (sym c.keeps_both.ensures ∙ w.if-keeps_both.false) (ap (λ v. v.items) w.places-is) w.kept-is
    ]
