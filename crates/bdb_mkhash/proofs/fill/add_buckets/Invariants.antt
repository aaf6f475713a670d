use Rattle.std.proofs.Common.{◌≡◌, ◌+◌, ◌<◌, ◌≤◌, length, ◌^◌}
use Rattle.bdb_mkhash.proofs.Common.{KeepsAll, AreEmptyPages}
use Rattle.bdb_mkhash.proofs.fill.add_buckets.Given as goal

-- So many pages are added.
abbrev pub invariant-loop-bucket : goal.invariant-loop-bucket
invariant-loop-bucket l =
    KeepsAll l.fn.pages l.pages × (length l.pages.pages ≡ length l.fn.pages.pages + l._bucket)
    × AreEmptyPages (length l.fn.pages.pages) l._bucket l.pages × (0 < l._bucket → length l.pages.pages ≤ 2 ^ 21)
