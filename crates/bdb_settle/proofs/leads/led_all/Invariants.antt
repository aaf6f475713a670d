use Rattle.std.proofs.Common.{◌≡◌, map, take}
use Rattle.bdb_settle.specs.Leads.{led}
use Rattle.bdb_settle.proofs.leads.led_all.Given as goal

-- The places so far are there with their leads.
abbrev pub invariant-loop-place : goal.invariant-loop-place
invariant-loop-place l = l.leads.items ≡ map (led l.bytes l.shared) (take l.place-index l.places)
