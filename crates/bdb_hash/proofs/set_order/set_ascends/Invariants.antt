use Rattle.std.proofs.Common.{◌≡◌, option_map}
use Rattle.bdb_ranks.specs.of_format.Terms.{Tree, ascends, data_of, file_of}
use Rattle.bdb_ranks.specs.of_overflow.Held.{FitsAny, value_held}
use Rattle.bdb_ranks.specs.of_tree.Entries.{AreFit, values_of}
use Rattle.bdb_hash.specs.SetOrder.{ascends_after}
use Rattle.bdb_hash.proofs.set_order.set_ascends.Given as goal

-- The data that are left, after the last one passed, ascend where all do.
abbrev pub invariant-loop-entry : goal.invariant-loop-entry
invariant-loop-entry l = record {
  ascends : ascends_after (option_map (value_held (file_of l.fn.known)) l.last) (values_of (file_of l.fn.known) l.entry-iterator)
      ≡ ascends (data_of (file_of l.fn.known) (Tree l.root));
  fits : FitsAny (file_of l.fn.known) l.last;
  entries : AreFit (file_of l.fn.known) l.entry-iterator;
  same : l.known ≡ l.fn.known;
}
