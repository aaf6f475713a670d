use Rattle.std.proofs.Common.{◌≡◌, ◌-◌}
use Rattle.bdb_rescue.specs.Kept.{file_in}
use Rattle.bdb_apart.specs.Left.{loose_from}
use Rattle.bdb_apart.proofs.left.RecordsLeftIterator.next.Given as goal

-- As much is left as at the beginning.
abbrev pub invariant-walk : goal.invariant-walk
invariant-walk l =
    loose_from l.self-inside.apart.now l.self-inside.here l.self-inside.page
    ≡ loose_from l.initial.self-inside.apart.now l.initial.self-inside.here l.initial.self-inside.page

abbrev pub decreases-walk : goal.decreases-walk
decreases-walk l = (file_in l.self-inside.apart.now).count - l.self-inside.page
