use Rattle.std.proofs.Common.{length, arith, ap, length-take}
use Rattle.bdb_io.proofs.TakenLemmas.{took_next, took_at_most_next}
use Rattle.bdb_io.proofs.image.read_image.Goals as goal

-- the room in the buffer ends one byte above the limit
pub returns-then-held-count-clause-too_large : goal.returns-then-held-count-clause-too_large
returns-then-held-count-clause-too_large g c =
    let read = c.in-Ok.ensures.bytes in
    let held = ap length c.as_slice-held.ensures in
    λ _. took_next _ _ _ _ _ _ _ c.read.invariant.taken read.0 read.1
    (omega (
      arith,
      read.0,
      c.read-in-read.auto.buf,
      c.min-room.ensures,
      held,
      c.if-held-count.true,
      c.read.invariant.bound,
      length-take c.min-room.result
          c.read.chunk,
    ))

pub returns-then-held-count-clause-taken : goal.returns-then-held-count-clause-taken
returns-then-held-count-clause-taken g c =
    let read = c.in-Ok.ensures.bytes in
    let held = ap length c.as_slice-held.ensures in
    took_at_most_next _ _ _ _ _ _ _ c.read.invariant.taken read.0 read.1
    (omega (arith, read.0, c.read-in-read.auto.buf, c.min-room.ensures, held, c.read.invariant.bound, length-take c.min-room.result c.read.chunk))

pub returns-then-is_err-clause-within : goal.returns-then-is_err-clause-within
returns-then-is_err-clause-within g c =
    let read = c.in-Ok.ensures.bytes in
    let held = ap length c.as_slice-held.ensures in
    λ _. took_at_most_next _ _ _ _ _ _ _ c.read.invariant.taken read.0 read.1 (omega (arith, held, c.if-held-count.false))

pub returns-then-is_err-clause-taken : goal.returns-then-is_err-clause-taken
returns-then-is_err-clause-taken g c =
    let read = c.in-Ok.ensures.bytes in
    let held = ap length c.as_slice-held.ensures in
    took_at_most_next _ _ _ _ _ _ _ c.read.invariant.taken read.0 read.1 (omega (arith, held, c.if-held-count.false))
