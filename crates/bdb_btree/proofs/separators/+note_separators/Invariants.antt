use Rattle.std.proofs.Common.{◌≡◌, take}
use Rattle.bdb_ranks.specs.of_format.Terms.{file_of}
use Rattle.bdb_btree.proofs.ItemLemmas.{level}
use Rattle.bdb_btree.proofs.SeenLemmas.{AreSeen}
use Rattle.bdb_btree.proofs.separators.+note_separators.Given as goal

-- A child stands one level below.
abbrev pub decreases-note_separators : goal.decreases-note_separators
decreases-note_separators g l = level (file_of l.known.now) l.page

-- The items passed are seen, and what is below them is noted.
abbrev pub invariant-loop-i : goal.invariant-loop-i
invariant-loop-i g l = record {
  seen : AreSeen (g.F.FaultSink.has_noted l.fn.found) (g.F.FaultSink.has_noted l.found) (file_of l.fn.known) l.bounds (take l.i l.view.items);
  same : l.known ≡ l.fn.known;
}
