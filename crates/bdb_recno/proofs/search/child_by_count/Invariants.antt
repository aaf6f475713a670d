use Rattle.std.proofs.Common.{◌≡◌, drop}
use Rattle.bdb_recno.specs.Counts.{child_by_count}
use Rattle.bdb_recno.proofs.search.child_by_count.Given as goal

-- The items that are left give the answer for the place that is left.
abbrev pub invariant-loop-i : goal.invariant-loop-i
invariant-loop-i l = child_by_count (drop l.i l.page.items) l.left ≡ child_by_count l.page.items l.place
