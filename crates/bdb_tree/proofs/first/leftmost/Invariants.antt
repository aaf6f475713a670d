use Rattle.bdb_overflow.specs.of_format.Terms.{file_of, header_in, page_at}
use Rattle.bdb_tree.proofs.DownLemmas.{HasFirstOf}
use Rattle.bdb_tree.proofs.first.leftmost.Given as goal

-- The first leaf below the page is that of the whole tree.
abbrev pub invariant-loop-child : goal.invariant-loop-child
invariant-loop-child l = HasFirstOf (file_of l.forest) l.root l.page

abbrev pub decreases-loop-child : goal.decreases-loop-child
decreases-loop-child l = (header_in (page_at (file_of l.forest) l.page)).level
