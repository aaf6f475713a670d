use Rattle.std.proofs.Common.{◌≡◌, ◌+◌, length}
use Rattle.bdb_apart.specs.Given.{records_given}
use Rattle.bdb_damage.proofs.counts.given_in_slots.Given as goal

-- The records so far, and those that are left, are all.
abbrev pub invariant-loop-record : goal.invariant-loop-record
invariant-loop-record l = l.count + length l._record-iterator ≡ length (records_given l.database)
