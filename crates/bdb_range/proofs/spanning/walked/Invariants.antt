use Rattle.std.proofs.Common.{◌≡◌, ◌+◌}
use Rattle.std.specs.List.{prefix_len}
use Rattle.bdb_btree.specs.of_format.Terms.{file_of}
use Rattle.bdb_btree.specs.Pairs.{AreLeaves}
use Rattle.bdb_range.specs.Spans.{goes_on}
use Rattle.bdb_range.proofs.spanning.walked.Given as goal

-- The leaves so far and those over which a walk goes on among those that are left are those of all; each took one step.
abbrev pub invariant-loop-leaf : goal.invariant-loop-leaf
invariant-loop-leaf g l = record {
  same : l.count + prefix_len (goes_on (file_of l.forest) l.to) l.leaf-iterator ≡ prefix_len (goes_on (file_of l.forest) l.to) l.fn.others;
  leaves : AreLeaves (file_of l.forest) l.leaf-iterator;
  steps : l.steps ≡ l.fn.steps + l.count;
}
