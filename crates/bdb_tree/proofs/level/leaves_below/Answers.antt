use Rattle.std.proofs.Common.{◌∙◌, ap, arith, flat_map}
use Rattle.bdb_overflow.specs.of_format.Terms.{file_of, leaves}
use Rattle.bdb_tree.specs.Trees.{children_at}
use Rattle.bdb_tree.proofs.LevelLemmas.{last_level, next_is_level}
use Rattle.bdb_tree.proofs.TreeLemmas.{level}
use Rattle.bdb_tree.proofs.level.leaves_below.Goals as goal

-- The children of these pages stand for the same leaves.
pub loop-turn-preserved : goal.loop-turn-preserved
loop-turn-preserved c =
    next_is_level c.args.forest.now c.loop-turn.pages.items c.in_ok-pages.pages.items
    (leaves (file_of c.args.forest.now) c.args.page) c.loop-turn._turn (level (file_of c.args.forest.now) c.args.page)
    c.level_of-turn-end.ensures.forest c.loop-turn.invariant (omega (arith, c.level_of-turn-end.ensures.level))
    (c.in_ok-pages.ensures.children ∙ ap (flat_map (children_at (file_of c.args.forest.now))) c.deref.ensures.value)

-- The pages of level 1 are leaves.
pub returns-clause-leaves : goal.returns-clause-leaves
returns-clause-leaves c =
    last_level c.args.forest.now c.loop-turn.pages.items (leaves (file_of c.args.forest.now) c.args.page) c.loop-turn._turn
    (level (file_of c.args.forest.now) c.args.page)
    c.level_of-turn-end.ensures.forest c.loop-turn.invariant (omega (arith, c.level_of-turn-end.ensures.level))
