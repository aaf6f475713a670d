use Rattle.std.proofs.Common.{subst}
use Rattle.bdb_mktree.proofs.Common.{HasFirstRoot, first_leaf}
use Rattle.bdb_mktree.proofs.FinishLemmas.{tree_built}
use Rattle.bdb_mktree.proofs.builder.TreeBuilder.finish.Goals as goal

pub returns : goal.returns
returns c =
    let building = c.requires.building in
    let builder = c.args.self in
    tree_built builder c.args.pages.now c.finish.new.pages c.in_ok-root.root building
    (subst (λ b. HasFirstRoot builder.leaves c.args.pages.now c.finish.new.pages b building.closed building.units c.in_ok-root.root)
    c.is_counted-counted.ensures
    (c.in_ok-root.ensures (first_leaf builder.leaves) building.closed building.units building.counted.filled building.some))
