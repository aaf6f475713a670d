use Rattle.std.proofs.Common.{◌≡◌, map, take}
use Rattle.bdb_need.specs.Need.{name_pair}
use Rattle.bdb_need.proofs.master.name_pairs.Given as goal

-- The sections passed have their pairs.
abbrev pub invariant-loop-section : goal.invariant-loop-section
invariant-loop-section l = l.pairs ≡ map name_pair (take l.section-index l.sections)
