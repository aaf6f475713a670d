use Rattle.std.proofs.Common.{◌≡◌, length}
use Rattle.std.specs.List.{filter}
use Rattle.bdb_apart.specs.Found.{found}
use Rattle.bdb_apart.specs.Left.{is_other}
use Rattle.bdb_apart.proofs.left.Others.next.Given as goal

-- Those that were passed name databases.
abbrev pub invariant-walk : goal.invariant-walk
invariant-walk l =
    filter (is_other (found l.self-inside.apart.now) l.self-inside.names) l.self-inside.pairs
    ≡ filter (is_other (found l.initial.self-inside.apart.now) l.initial.self-inside.names) l.initial.self-inside.pairs

abbrev pub decreases-walk : goal.decreases-walk
decreases-walk l = length l.self-inside.pairs
