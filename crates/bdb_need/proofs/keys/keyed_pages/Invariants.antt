use Rattle.std.proofs.Common.{length, ◌-◌}
use Rattle.bdb_mkhash.specs.of_text_format.Terms.{slice_seen}
use Rattle.bdb_need.proofs.KeyLemmas.{KeysPassed}
use Rattle.bdb_need.proofs.keys.keyed_pages.Given as goal

-- The units before the place are counted.
abbrev pub invariant-loop-start : goal.invariant-loop-start
invariant-loop-start l = KeysPassed l.size l.sorted (slice_seen l.pairs) l.start l.own l.leaves.left l.leaves.room l.leaves.items.items

abbrev pub decreases-loop-start : goal.decreases-loop-start
decreases-loop-start l = length (slice_seen l.pairs) - l.start
