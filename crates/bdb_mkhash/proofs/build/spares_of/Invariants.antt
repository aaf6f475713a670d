use Rattle.std.proofs.Common.{◌≡◌, ◌++◌, ◌-◌, replicate}
use Rattle.bdb_mkhash.proofs.build.spares_of.Given as goal

-- The spares of the groups passed are the first page.
abbrev pub invariant-loop-group : goal.invariant-loop-group
invariant-loop-group l = l.spares ≡ replicate l.group l.first ++ replicate (32 - l.group) 0
