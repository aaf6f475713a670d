use Rattle.std.proofs.Common.{◌≡◌, ◌+◌, sum_by}
use Rattle.bdb_repair.specs.Room.{datum_room}
use Rattle.bdb_repair.proofs.room.after_records.Given as goal

-- What is left of the file lacks what the records before took.
abbrev pub invariant-loop-value : goal.invariant-loop-value
invariant-loop-value l = l.left + sum_by datum_room l.fn.found ≡ l.fn.room + sum_by datum_room l.value-iterator
