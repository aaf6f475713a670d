use Rattle.std.proofs.Common.{◌≡◌, ◌++◌, ◌-◌}
use Rattle.bdb_rescue.specs.Kept.{file_in}
use Rattle.bdb_apart.specs.Left.{fit_left}
use Rattle.bdb_apart.specs.Queues.{queue_from}
use Rattle.bdb_apart.specs.Slots.{IsInQueue}
use Rattle.bdb_apart.proofs.slots.QueueRecordsIterator.next.Given as goal

-- As much is left as at the beginning.
abbrev pub invariant-walk : goal.invariant-walk
invariant-walk l = record {
  left : fit_left l.self-inside.here ++ queue_from l.self-inside.salvaged.now l.self-inside.meta l.self-inside.page
      ≡ fit_left l.initial.self-inside.here ++ queue_from l.initial.self-inside.salvaged.now l.initial.self-inside.meta l.initial.self-inside.page;
  queue : IsInQueue l.self-inside.salvaged.now l.self-inside.meta l.self-inside.page;
}

abbrev pub decreases-walk : goal.decreases-walk
decreases-walk l = (file_in l.self-inside.salvaged.now).count - l.self-inside.page
