use Rattle.std.proofs.Common.{◌≡◌, take}
use Rattle.bdb_layout.proofs.keys.compare.Given as goal

-- The bytes so far are the same.
abbrev pub invariant-loop-i : goal.invariant-loop-i
invariant-loop-i l = take l.i l.a ≡ take l.i l.b
