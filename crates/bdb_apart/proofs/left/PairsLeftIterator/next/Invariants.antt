use Rattle.std.proofs.Common.{◌≡◌, ◌-◌}
use Rattle.bdb_rescue.specs.Kept.{file_in}
use Rattle.bdb_apart.specs.Left.{pairs_from}
use Rattle.bdb_apart.proofs.left.PairsLeftIterator.next.Given as goal

-- As much is left as at the beginning.
abbrev pub invariant-walk : goal.invariant-walk
invariant-walk l =
    pairs_from l.self-inside.apart.now l.self-inside.here l.self-inside.page
    ≡ pairs_from l.initial.self-inside.apart.now l.initial.self-inside.here l.initial.self-inside.page

abbrev pub decreases-walk : goal.decreases-walk
decreases-walk l = (file_in l.self-inside.apart.now).count - l.self-inside.page
