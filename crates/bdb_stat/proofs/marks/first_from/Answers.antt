use Rattle.std.proofs.Common.{◌*◌, arith, get_or}
use Rattle.bdb_stat.proofs.MarkLemmas.{next_here, no_bit, none_more}
use Rattle.bdb_stat.proofs.marks.first_from.Goals as goal

pub returns-then-word-ne0 : goal.returns-then-word-ne0
returns-then-word-ne0 c =
    next_here c.args.words.now (64 * c.args.number) c.loop-i.i 0 c.first_bit.result (omega (arith, c.loop-i-test.true)) (omega arith) (omega arith)
    c.first_bit.ensures.low
    (λ k past below. c.loop-i.invariant k past (omega arith)) c.first_bit.ensures.set (λ i past below. c.first_bit.ensures.none i below)

pub loop-i-preserved : goal.loop-i-preserved
loop-i-preserved c =
    none_more c.args.words.now (64 * c.args.number) c.loop-i.i 0 (omega (arith, c.loop-i-test.true)) (omega arith)
    (λ k past below. c.loop-i.invariant k past (omega arith))
    (λ i past few. no_bit (get_or c.args.words.now c.loop-i.i 0) i (omega (arith, c.if-word-ne0.false)))
