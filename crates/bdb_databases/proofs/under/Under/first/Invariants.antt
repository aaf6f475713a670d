use Rattle.std.proofs.Common.{◌≡◌, length}
use Rattle.bdb_databases.specs.Under.{listed_under}
use Rattle.bdb_databases.proofs.under.Under.first.Given as goal

-- the same key is looked for, and what was passed over doesn't have it
abbrev pub invariant-loop-key : goal.invariant-loop-key
invariant-loop-key l =
    (l.self-inside.key ≡ l.initial.self-inside.key)
    × (listed_under l.self-inside.key l.self-inside.list ≡ listed_under l.initial.self-inside.key l.initial.self-inside.list)

abbrev pub decreases-loop-key : goal.decreases-loop-key
decreases-loop-key l = length l.self-inside.list
