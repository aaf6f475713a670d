use Rattle.std.proofs.Common.{sym, ◌∙◌}
use Rattle.bdb_tree.proofs.DownLemmas.{IsFirstLeaf, ends_down, steps_down}
use Rattle.bdb_tree.proofs.first.leftmost.Goals as goal

pub loop-child-smaller : goal.loop-child-smaller
loop-child-smaller c = (steps_down _ _ _ _ c.first_child.ensures.forest c.loop-child.invariant c.in-Some.ensures.child).lower

pub loop-child-preserved : goal.loop-child-preserved
loop-child-preserved c = (steps_down _ _ _ _ c.first_child.ensures.forest c.loop-child.invariant c.in-Some.ensures.child).first

-- Where a page has no child the way ends.
ended : (c : goal.After-at) → IsFirstLeaf c.args.forest.now c.args.root c.loop-child.page
ended c = ends_down _ _ _ c.first_child.ensures.forest c.loop-child.invariant (sym c.in_default.is ∙ c.first_child.ensures.child)

pub returns-clause-first : goal.returns-clause-first
returns-clause-first c = rw c.at.ensures (ended c).first

pub returns-clause-fits : goal.returns-clause-fits
returns-clause-fits c = rw c.at.ensures (ended c).fits
