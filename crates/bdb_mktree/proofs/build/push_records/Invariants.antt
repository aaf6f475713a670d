use Rattle.std.proofs.Common.{◌≤◌, drop, length}
use Rattle.bdb_mktree.proofs.Common.{AscendFrom, pairs_of, ArePushed, record_units}
use Rattle.bdb_mktree.proofs.build.push_records.Given as goal

-- The records below the number are pushed.
abbrev pub invariant-loop-place : goal.invariant-loop-place
invariant-loop-place l =
    (l.place ≤ length (pairs_of l.list)) × AscendFrom l.number (drop l.place (pairs_of l.fn.list))
    × ArePushed l.fn.builder l.builder l.fn.pages l.pages (record_units 1 (pairs_of l.fn.list)) (record_units l.number (drop l.place (pairs_of l.fn.list)))

abbrev pub decreases-loop-place : goal.decreases-loop-place
decreases-loop-place l = length (record_units l.number (drop l.place (pairs_of l.list)))
