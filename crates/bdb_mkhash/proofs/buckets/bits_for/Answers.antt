use Rattle.std.proofs.Common.{◌≡◌, ◌*◌, ◌-◌, ◌≤◌, arith, subst, ◌^◌, ◌%◌, ◌/◌}
use Rattle.std.proofs.Math.Pow.{pow_mono}
use Rattle.bdb_mkhash.proofs.BucketLemmas.{bits_found}
use Rattle.bdb_mkhash.proofs.buckets.bits_for.Goals as goal

pub returns-then-cost-bits-clause-bits : goal.returns-then-cost-bits-clause-bits
returns-then-cost-bits-clause-bits c =
    let few : c.loop-bits.bits ≤ 31 = omega arith in
    let p : 2 ^ c.loop-bits.bits ≤ 2 ^ 31 = pow_mono few in
    let e : 1 * 2 ^ c.loop-bits.bits % 18446744073709551616 ≡ 2 ^ c.loop-bits.bits = omega (arith, p) in
    bits_found c.args.size c.args.cost c.loop-bits.bits c.loop-bits.auto.bits few
    (subst (λ m. c.args.cost ≤ m * ((c.args.size - 26) / 2)) e c.if-cost-bits.true) c.loop-bits.invariant
