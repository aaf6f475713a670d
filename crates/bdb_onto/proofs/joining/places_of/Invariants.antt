use Rattle.std.proofs.Common.{◌≡◌, ◌++◌, Some, length, map, reverse}
use Rattle.bdb_onto.proofs.joining.places_of.Given as goal

-- The databases that were taken off are there, the last one first.
abbrev pub invariant-loop-database : goal.invariant-loop-database
invariant-loop-database l = map Some l.fn.databases ≡ map Some l.databases ++ reverse l.all.items

abbrev pub decreases-loop-database : goal.decreases-loop-database
decreases-loop-database l = length l.databases
