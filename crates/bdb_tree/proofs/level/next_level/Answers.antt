use Rattle.std.proofs.Common.{◌≡◌, ◌+◌, arith, take, flat_map}
use Rattle.std.proofs.lemmas.Grind.{common_steps}
use Rattle.bdb_overflow.specs.of_format.Terms.{file_of}
use Rattle.bdb_tree.specs.Trees.{children_at}
use Rattle.bdb_tree.proofs.LevelLemmas.{children_are_trees}
use Rattle.bdb_tree.proofs.level.next_level.Goals as goal

pub loop-page-preserved : goal.loop-page-preserved
loop-page-preserved c =
    let passed = take (c.loop-page.page-index + 1) c.args.pages.now in
    let more : c.push_children.new.next.items ≡ flat_map (children_at (file_of c.args.forest.now)) passed = grind (arith, common_steps) in
    record { children = more; trees = children_are_trees c.args.forest.now passed c.push_children.new.next.items c.page.ensures.forest more }
