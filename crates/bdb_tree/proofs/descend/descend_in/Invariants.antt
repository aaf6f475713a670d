use Rattle.bdb_overflow.specs.of_format.Terms.{file_of, header_in, page_at}
use Rattle.bdb_tree.proofs.WayLemmas.{IsOnWay}
use Rattle.bdb_tree.proofs.descend.descend_in.Given as goal

-- The rest of the descent from the page where it stands ends where the whole one does.
abbrev pub invariant-loop-child : goal.invariant-loop-child
invariant-loop-child g l =
    IsOnWay (file_of l.forest) (g.T.Separate.reads l.test) (g.T.Separate.says l.test) l.fn.root l.fn.steps l.page l.steps

abbrev pub decreases-loop-child : goal.decreases-loop-child
decreases-loop-child g l = (header_in (page_at (file_of l.forest) l.page)).level
