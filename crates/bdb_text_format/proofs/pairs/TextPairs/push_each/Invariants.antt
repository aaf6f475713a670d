use Rattle.std.proofs.Common.{◌≡◌, ◌++◌, take}
use Rattle.bdb_text_format.specs.Terms.{slice_seen}
use Rattle.bdb_text_format.proofs.pairs.TextPairs.push_each.Given as goal

-- The pairs passed are there.
abbrev pub invariant-loop-i : goal.invariant-loop-i
invariant-loop-i l = l.self ≡ l.fn.self ++ take l.i (slice_seen l.fn.pairs)
