use Rattle.std.proofs.Common.{arith}
use Rattle.bdb_settle.proofs.LeadLemmas.{number_fits}
use Rattle.bdb_settle.proofs.leads.first_eight.Goals as goal

-- The bytes so far fit seven.
pub overflow_mul-number : goal.overflow_mul-number
overflow_mul-number c =
    omega (arith, number_fits c.loop-i.i c.args.bytes.now (λ i. (c.type_inv.bytes i).fits) c.loop-i-test.true, c.loop-i.invariant)

pub overflow_add-number : goal.overflow_add-number
overflow_add-number c =
    omega (
      arith,
      number_fits c.loop-i.i c.args.bytes.now (λ i. (c.type_inv.bytes i).fits) c.loop-i-test.true,
      c.loop-i.invariant,
      c.from.ensures,
    )
