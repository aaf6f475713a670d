use Rattle.std.proofs.Common.{◌≡◌, length}
use Rattle.std.specs.List.{filter}
use Rattle.bdb_apart.specs.Kept.{fits_in}
use Rattle.bdb_apart.proofs.leaf_records.Fitting.next.Given as goal

-- Those that were passed don't fit.
abbrev pub invariant-walk : goal.invariant-walk
invariant-walk l =
    filter (fits_in l.self-inside.holds) l.self-inside.records ≡ filter (fits_in l.initial.self-inside.holds) l.initial.self-inside.records

abbrev pub decreases-walk : goal.decreases-walk
decreases-walk l = length l.self-inside.records
