use Rattle.std.proofs.Common.{◌≡◌, ◌+◌, sum_by}
use Rattle.bdb_repair.specs.ApartRoom.{found_room}
use Rattle.bdb_repair.proofs.apart_room.after_databases.Given as goal

-- What is left of the file lacks what the databases before took.
abbrev pub invariant-loop-db : goal.invariant-loop-db
invariant-loop-db l = l.left + sum_by found_room l.fn.dbs ≡ l.fn.room + sum_by found_room l.db-iterator
