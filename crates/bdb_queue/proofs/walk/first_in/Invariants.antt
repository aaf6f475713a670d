use Rattle.std.proofs.Common.{◌≡◌}
use Rattle.bdb_queue.specs.Records.{slots_from}
use Rattle.bdb_queue.proofs.walk.first_in.Given as goal

-- No slot before this one has a live record.
abbrev pub invariant-loop-at : goal.invariant-loop-at
invariant-loop-at l = slots_from l.meta l.page l.view.bytes l.slot ≡ slots_from l.meta l.page l.view.bytes l.at
