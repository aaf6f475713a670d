use Rattle.std.proofs.Common.{length, ◌-◌}
use Rattle.bdb_mkhash.specs.of_text_format.Terms.{slice_seen}
use Rattle.bdb_need.proofs.KeyLemmas.{OwnPassed}
use Rattle.bdb_need.proofs.TableLemmas.{KeysPlaced, own_in_table}
use Rattle.bdb_need.proofs.table.all_pages.Given as goal

-- The keys before the place are on their pages, and what they have of their own is counted.
abbrev pub invariant-loop-start : goal.invariant-loop-start
invariant-loop-start l =
    KeysPlaced l.size l.bits (slice_seen l.pairs) l.start l.pages l.left.items
    × OwnPassed (own_in_table l.size l.sorted) (slice_seen l.pairs) l.start l.own

abbrev pub decreases-loop-start : goal.decreases-loop-start
decreases-loop-start l = length (slice_seen l.pairs) - l.start
