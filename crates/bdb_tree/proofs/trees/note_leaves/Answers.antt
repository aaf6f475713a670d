use Rattle.std.proofs.Common.{◌∙◌}
use Rattle.bdb_overflow.specs.of_format.Terms.{file_of}
use Rattle.bdb_tree.proofs.NotedLemmas.{tree_noted}
use Rattle.bdb_tree.proofs.trees.note_leaves.Goals as goal

pub returns : goal.returns
returns g c =
    tree_noted (g.F.FaultSink.has_noted c.args.found.now) (g.F.FaultSink.has_noted c.note_places.new.found) (file_of c.args.forest.now)
    c.args.sort c.args.root c.deref.result.now (c.deref.ensures.value ∙ c.in_ok-leaves.ensures.leaves) c.in_ok-note_places.ensures
