use Rattle.std.proofs.Common.{◌≡◌, length}
use Rattle.bdb_apart.specs.Left.{loose_in}
use Rattle.bdb_apart.proofs.left.Loose.next.Given as goal

-- Those that were passed fit.
abbrev pub invariant-walk : goal.invariant-walk
invariant-walk l = loose_in l.self-inside.holds l.self-inside.records ≡ loose_in l.initial.self-inside.holds l.initial.self-inside.records

abbrev pub decreases-walk : goal.decreases-walk
decreases-walk l = length l.self-inside.records
