use Rattle.std.proofs.Common.{◌≡◌, fold}
use Rattle.bdb_ranks.specs.of_format.Terms.{Tree, data_of, file_of}
use Rattle.bdb_ranks.specs.of_overflow.Held.{FitsAny}
use Rattle.bdb_ranks.specs.of_tree.Entries.{AreFit, values_of}
use Rattle.bdb_btree.specs.Held.{run_seen}
use Rattle.bdb_btree.specs.Runs.{follow}
use Rattle.bdb_btree.proofs.data_order.Ascent.see_set.Given as goal

-- The run and the values that are left make up the whole.
abbrev pub invariant-loop-entry : goal.invariant-loop-entry
invariant-loop-entry l = record {
  run : fold follow (run_seen (file_of l.fn.known) l.self) (values_of (file_of l.fn.known) l.entry-iterator)
      ≡ fold follow (run_seen (file_of l.fn.known) l.fn.self) (data_of (file_of l.fn.known) (Tree l.root));
  fits : FitsAny (file_of l.fn.known) l.self.last;
  entries : AreFit (file_of l.fn.known) l.entry-iterator;
  same : l.known ≡ l.fn.known;
}
