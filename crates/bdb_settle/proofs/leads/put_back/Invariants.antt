use Rattle.bdb_settle.specs.Leads.{IsPutBack}
use Rattle.bdb_settle.proofs.leads.put_back.Given as goal

-- The places so far are those of the leads.
abbrev pub invariant-loop-i : goal.invariant-loop-i
invariant-loop-i l = IsPutBack l.leads l.places.items l.i
