use Rattle.std.proofs.Common.{◌≡◌, ◌+◌, sum_by}
use Rattle.bdb_repair.specs.Room.{pair_room}
use Rattle.bdb_repair.proofs.apart_room.after_pairs.Given as goal

-- What is left of the file lacks what the pairs before took.
abbrev pub invariant-loop-pair : goal.invariant-loop-pair
invariant-loop-pair l = l.left + sum_by pair_room l.fn.pairs ≡ l.fn.room + sum_by pair_room l.pair-iterator
