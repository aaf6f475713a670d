use Rattle.bdb_ranks.specs.of_format.Terms.{file_of}
use Rattle.bdb_btree.proofs.CountLemmas.{IsPassed}
use Rattle.bdb_btree.proofs.ItemLemmas.{level}
use Rattle.bdb_btree.proofs.counts.+note_counts.Given as goal

-- A child stands one level below.
abbrev pub decreases-note_counts : goal.decreases-note_counts
decreases-note_counts g l = level (file_of l.forest.now) l.page

-- The items passed are counted, and what is below them is noted.
abbrev pub invariant-loop-item : goal.invariant-loop-item
invariant-loop-item g l =
    IsPassed (g.F.FaultSink.has_noted l.fn.found) (g.F.FaultSink.has_noted l.found) (file_of l.forest) l.page l.counts l.wrong l.item-iterator
