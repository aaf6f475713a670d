use Rattle.std.proofs.Common.{◌≡◌}
use Rattle.bdb_settle.specs.Leads.{leading_number}
use Rattle.bdb_settle.proofs.leads.first_eight.Given as goal

-- The number is that of the bytes so far.
abbrev pub invariant-loop-i : goal.invariant-loop-i
invariant-loop-i l = l.number ≡ leading_number l.i l.bytes
