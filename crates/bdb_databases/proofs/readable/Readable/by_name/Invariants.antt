use Rattle.std.proofs.Common.{◌≡◌, drop, option_copied}
use Rattle.bdb_recno.specs.of_format.Terms.{databases, file_of, place_from, place_of}
use Rattle.bdb_databases.proofs.readable.Readable.by_name.Given as goal

-- The name is none of the databases so far.
abbrev pub invariant-loop-i : goal.invariant-loop-i
invariant-loop-i l =
    place_of (option_copied l.name) (databases (file_of l.self)) ≡ place_from l.i (option_copied l.name) (drop l.i (databases (file_of l.self)))
