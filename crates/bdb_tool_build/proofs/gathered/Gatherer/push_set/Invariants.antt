use Rattle.std.proofs.Common.{◌≡◌, [], List}
use Rattle.bdb_model.specs.of_format.Terms.{file_of, tree_entries}
use Rattle.bdb_ranks.specs.of_tree.Entries.{AreFit, values_of}
use Rattle.bdb_tool_build.proofs.GatheredLemmas.{AddsSoFar}
use Rattle.bdb_tool_build.proofs.gathered.Gatherer.push_set.Given as goal

-- The key stands there with the values passed.
abbrev pub invariant-loop-entry : goal.invariant-loop-entry
invariant-loop-entry l = record {
  fit : AreFit (file_of l.fn.self.image) l.entry-iterator;
  adds : AddsSoFar l.fn.self l.self l.fn.key (values_of (file_of l.fn.self.image) (tree_entries (file_of l.fn.self.image) l.fn.root))
      (values_of (file_of l.fn.self.image) l.entry-iterator);
}
