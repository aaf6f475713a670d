use Rattle.std.proofs.Common.{sym, ◌∙◌}
use Rattle.bdb_tree.proofs.WayLemmas.{IsEnd, at_end, at_root, on_way}
use Rattle.bdb_tree.proofs.descend.descend_in.Goals as goal
use Rattle.bdb_tree.proofs.descend.descend_in.Goals.{After-at}
use Rattle.bdb_overflow.specs.of_format.Terms.{file_of}

pub loop-child-init : goal.loop-child-init
loop-child-init g c = at_root c.args.forest.now _ _ _ _ c.requires.keyed c.requires.readable c.requires.monotone

pub loop-child-preserved : goal.loop-child-preserved
loop-child-preserved g c =
    (on_way _ _ _ _ _ _ _ _ _ c.step_below.ensures.forest c.loop-child.invariant c.in-Some.ensures.next c.in-Some.ensures.cost).way

-- A child has a level one less.
pub loop-child-smaller : goal.loop-child-smaller
loop-child-smaller g c =
    (on_way _ _ _ _ _ _ _ _ _ c.step_below.ensures.forest c.loop-child.invariant c.in-Some.ensures.next c.in-Some.ensures.cost).level

the_end : (g : _) (c : After-at g) → IsEnd (file_of c.args.forest.now)
    (g.T.Separate.says c.args.test.now) c.args.root c.args.steps.now c.loop-child.page c.step_below.new.steps
the_end g c =
    at_end _ _ _ _ _ _ _ _ c.step_below.ensures.forest c.loop-child.invariant (sym c.in_default.is ∙ c.step_below.ensures.next)
    c.step_below.ensures.cost

pub returns-clause-leaf : goal.returns-clause-leaf
returns-clause-leaf g c = rw c.at.ensures (the_end g c).leaf

pub returns-clause-fits : goal.returns-clause-fits
returns-clause-fits g c = rw c.at.ensures (the_end g c).fits

pub returns-clause-cost : goal.returns-clause-cost
returns-clause-cost g c = (the_end g c).cost
