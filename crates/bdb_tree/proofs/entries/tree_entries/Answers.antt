use Rattle.std.proofs.Common.{◌∙◌, [], ap}
use Rattle.bdb_overflow.specs.of_format.Terms.{file_of}
use Rattle.bdb_tree.specs.Entries.{entries_left}
use Rattle.bdb_tree.proofs.EntryLemmas.{all_entries, all_fit, leaves_there}
use Rattle.bdb_tree.proofs.TreeLemmas.{root_is_tree}
use Rattle.bdb_tree.proofs.entries.tree_entries.Goals as goal

pub invariant_of-result : goal.invariant_of-result
invariant_of-result c =
    let tree = root_is_tree c.args.forest.now c.args.root c.tree_leaves.ensures.forest c.requires.root in
    rw c.again.ensures (leaves_there _ _ _ c.tree_leaves.ensures.forest tree c.tree_leaves.ensures.leaves)

pub returns-clause-fit : goal.returns-clause-fit
returns-clause-fit c =
    let tree = root_is_tree c.args.forest.now c.args.root c.tree_leaves.ensures.forest c.requires.root in
    all_fit c.args.forest.now c.args.root _ c.tree_leaves.ensures.forest tree
    (ap (λ image. entries_left (file_of image) [] c.tree_leaves.result) c.again.ensures
    ∙ all_entries (file_of c.args.forest.now) c.args.root c.tree_leaves.result c.tree_leaves.ensures.leaves)
