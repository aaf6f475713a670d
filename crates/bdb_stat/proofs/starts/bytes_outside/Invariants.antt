use Rattle.std.proofs.Common.{◌-◌, length}
use Rattle.bdb_law_turned.specs.of_format.Terms.{entries_of, index_end, offset_of}
use Rattle.bdb_stat.proofs.SweepLemmas.{IsSwept}
use Rattle.bdb_stat.proofs.starts.bytes_outside.Given as goal

-- The items that begin before a place are counted.
abbrev pub invariant-loop-at : goal.invariant-loop-at
invariant-loop-at g l =
    IsSwept (index_end l.order l.page) (length l.starts) (entries_of l.order l.page) (offset_of l.order l.page) (g.K.EndKind.end l.order l.page)
    l.from l.reached l.outside

abbrev pub decreases-loop-at : goal.decreases-loop-at
decreases-loop-at g l = length l.starts - l.from
