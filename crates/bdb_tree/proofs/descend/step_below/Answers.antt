use Rattle.bdb_tree.proofs.DescentLemmas.{holds_here}
use Rattle.bdb_tree.proofs.descend.step_below.Goals as goal
use Rattle.bdb_tree.specs.Descent.{AreReadable, IsMonotone}

-- An internal page is one of its own tree.
pub chosen_child-requires-clause-readable : goal.chosen_child-requires-clause-readable
chosen_child-requires-clause-readable g c =
    holds_here _ (AreReadable (g.T.Separate.reads c.args.test.now)) _ _ c.page.ensures.forest c.requires.inside c.requires.readable
    c.in-Internal.ensures.page

pub chosen_child-requires-clause-monotone : goal.chosen_child-requires-clause-monotone
chosen_child-requires-clause-monotone g c =
    holds_here _ (IsMonotone (g.T.Separate.says c.args.test.now)) _ _ c.page.ensures.forest c.requires.inside c.requires.monotone
    c.in-Internal.ensures.page
