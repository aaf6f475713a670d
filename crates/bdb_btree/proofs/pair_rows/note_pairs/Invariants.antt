use Rattle.std.proofs.Common.{◌≡◌}
use Rattle.bdb_ranks.specs.of_format.Terms.{file_of, tree_pairs}
use Rattle.bdb_btree.proofs.HeldLemmas.{HeldTo}
use Rattle.bdb_btree.proofs.pair_rows.note_pairs.Given as goal

-- The pairs passed are noted, and the others are left.
abbrev pub invariant-loop-pair : goal.invariant-loop-pair
invariant-loop-pair g l = record {
  held : HeldTo (file_of l.fn.known) l.rules (tree_pairs (file_of l.fn.known) l.root) l.pair-iterator l.passed (g.F.FaultSink.has_noted l.fn.found)
      (g.F.FaultSink.has_noted l.found);
  same : l.known ≡ l.fn.known;
}
