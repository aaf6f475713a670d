use Rattle.std.proofs.Common.{ap, refl, subst, List}
use Rattle.bdb_model.specs.of_format.Terms.{File, file_of, tree_entries}
use Rattle.bdb_ranks.specs.of_layout.Seen.{leaf_item_seen}
use Rattle.bdb_ranks.specs.of_tree.Entries.{values_of}
use Rattle.bdb_ranks.proofs.of_tree.EntryLemmas.{all_values, rest_fit}
use Rattle.bdb_tool_build.specs.Gathered.{Adds}
use Rattle.bdb_tool_build.proofs.GatheredLemmas.{entry_fits, so_far_all, so_far_entry}
use Rattle.bdb_tool_build.proofs.gathered.Gatherer.push_set.Goals as goal

pub push_entry-requires-clause-fits : goal.push_entry-requires-clause-fits
push_entry-requires-clause-fits c =
    entry_fits c.args.self.now.image c.loop-entry.self.image c.loop-entry.entry-iterator c.next.new.self (leaf_item_seen c.in-Some.entry) c.in-Some.ensures.steps
    c.loop-entry.invariant.adds.adds.image c.loop-entry.invariant.fit

pub loop-entry-preserved : goal.loop-entry-preserved
loop-entry-preserved c = record {
  fit =
      rest_fit (file_of c.args.self.now.image) (leaf_item_seen c.in-Some.entry) c.next.new.self c.loop-entry.entry-iterator c.in-Some.ensures.steps
      c.loop-entry.invariant.fit;
  adds =
      so_far_entry c.args.self.now c.loop-entry.self c.push_entry.new.self c.args.key
      (values_of (file_of c.args.self.now.image) (tree_entries (file_of c.args.self.now.image) c.args.root)) c.loop-entry.entry-iterator c.next.new.self
      (leaf_item_seen c.in-Some.entry) c.loop-entry.invariant.adds c.in-Some.ensures.steps c.in_ok-push_entry.ensures;
}

pub returns : goal.returns
returns c =
    let file : File = file_of c.args.self.now.image in
    subst (Adds c.args.self.now c.loop-entry.self c.args.key) (all_values file c.args.root (tree_entries file c.args.root) refl)
    (so_far_all c.args.self.now c.loop-entry.self c.args.key (values_of file (tree_entries file c.args.root)) (values_of file c.loop-entry.entry-iterator)
    c.loop-entry.invariant.adds (ap (values_of file) c.in-None.ensures.steps.0))
