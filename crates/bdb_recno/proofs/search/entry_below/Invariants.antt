use Rattle.std.proofs.Common.{◌+◌, ◌≤◌}
use Rattle.bdb_tree.specs.of_format.Terms.{file_of, header_in, page_at}
use Rattle.bdb_recno.proofs.SearchLemmas.{IsOnTheWay}
use Rattle.bdb_recno.proofs.search.entry_below.Given as goal

-- The entry stands at this place below the page; a step was taken for each level passed.
abbrev pub invariant-loop-leaf : goal.invariant-loop-leaf
invariant-loop-leaf g l =
    IsOnTheWay (file_of l.forest) l.root l.place l.page l.left
    × (l.steps + (header_in (page_at (file_of l.forest) l.page)).level ≤ l.fn.steps + (header_in (page_at (file_of l.forest) l.root)).level)

abbrev pub decreases-loop-leaf : goal.decreases-loop-leaf
decreases-loop-leaf g l = (header_in (page_at (file_of l.forest) l.page)).level
