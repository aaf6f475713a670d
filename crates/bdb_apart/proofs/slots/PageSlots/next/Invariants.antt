use Rattle.std.proofs.Common.{◌≡◌, ◌-◌}
use Rattle.bdb_apart.specs.Queues.{queue_slots_from}
use Rattle.bdb_apart.specs.Slots.{IsOnPage}
use Rattle.bdb_apart.proofs.slots.PageSlots.next.Given as goal

-- As much is left as at the beginning.
abbrev pub invariant-slots : goal.invariant-slots
invariant-slots l = record {
  left : queue_slots_from l.self-inside.meta l.self-inside.page l.self-inside.bytes.now l.self-inside.slot
      ≡ queue_slots_from l.initial.self-inside.meta l.initial.self-inside.page l.initial.self-inside.bytes.now l.initial.self-inside.slot;
  room : IsOnPage l.self-inside.meta l.self-inside.page l.self-inside.bytes.now;
}

abbrev pub decreases-slots : goal.decreases-slots
decreases-slots l = l.self-inside.meta.per_page - l.self-inside.slot
