use Rattle.std.proofs.Common.{◌≡◌, take, subst, arith}
use Rattle.bdb_layout.proofs.KeyLemmas.{behind_first, ordering_at}
use Rattle.bdb_layout.proofs.keys.compare.Goals as goal

-- The first byte that differs decides.
pub returns-then-a-i : goal.returns-then-a-i
returns-then-a-i c =
    ordering_at c.loop-i.i c.args.a.now c.args.b.now c.cmp.result 0 0 c.loop-i.invariant (omega (arith, c.loop-i-test.true, c.min-first.ensures, c.min.ensures))
    (omega (arith, c.loop-i-test.true, c.min-first.ensures, c.min.ensures)) c.cmp.ensures c.if-a-i.true

-- The first bytes are the same.
pub returns : goal.returns
returns c =
    behind_first c.min-first.result c.args.a.now c.args.b.now c.cmp-2.result
    (subst (λ i. take i c.args.a.now ≡ take i c.args.b.now) (omega (arith, c.loop-i-test.false, c.loop-i.auto.i-end)) c.loop-i.invariant) c.cmp-2.ensures
