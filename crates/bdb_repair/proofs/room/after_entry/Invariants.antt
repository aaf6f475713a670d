use Rattle.std.proofs.Common.{◌≡◌, ◌+◌, length}
use Rattle.bdb_repair.specs.Room.{entry_room}
use Rattle.bdb_repair.proofs.room.after_entry.Given as goal

-- What is left of the file lacks what the data before took.
abbrev pub invariant-loop-value : goal.invariant-loop-value
invariant-loop-value l = l.left + entry_room l.fn.entry ≡ l.fn.room + entry_room l.entry

abbrev pub decreases-loop-value : goal.decreases-loop-value
decreases-loop-value l = length l.entry.1
