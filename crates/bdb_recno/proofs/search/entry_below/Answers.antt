use Rattle.std.proofs.Common.{◌∙◌, ap, arith, option_map}
use Rattle.bdb_tree.specs.of_layout.Seen.{leaf_item_seen}
use Rattle.bdb_recno.proofs.SearchLemmas.{way_down, way_ends}
use Rattle.bdb_recno.proofs.search.entry_below.Goals as goal

pub returns-in_err-child-in-Internal-clause-entry : goal.returns-in_err-child-in-Internal-clause-entry
returns-in_err-child-in-Internal-clause-entry g c =
    ap (option_map leaf_item_seen) c.from_residual.ensures
    ∙ way_ends c.args.forest.now c.args.root c.args.place c.loop-leaf.page c.loop-leaf.left c.in-Internal.inner c.requires.forest
    c.loop-leaf.invariant.0 c.in-Internal.ensures
    c.in_err-child-in-Internal.ensures

-- Each page is a level below the one before.
pub loop-leaf-smaller : goal.loop-leaf-smaller
loop-leaf-smaller g c =
    let down = way_down c.args.forest.now c.args.root c.args.place c.loop-leaf.page c.loop-leaf.left c.in_ok-child-in-Internal.child
    c.in_ok-child-in-Internal.below c.in-Internal.inner c.requires.forest c.loop-leaf.invariant.0 c.in-Internal.ensures
    c.in_ok-child-in-Internal.ensures in
    omega (arith, down.1)

pub loop-leaf-preserved : goal.loop-leaf-preserved
loop-leaf-preserved g c =
    let down = way_down c.args.forest.now c.args.root c.args.place c.loop-leaf.page c.loop-leaf.left c.in_ok-child-in-Internal.child
    c.in_ok-child-in-Internal.below c.in-Internal.inner c.requires.forest c.loop-leaf.invariant.0 c.in-Internal.ensures
    c.in_ok-child-in-Internal.ensures in
    (down.0, omega (arith, c.tick.ensures, c.loop-leaf.invariant.1, down.1))
