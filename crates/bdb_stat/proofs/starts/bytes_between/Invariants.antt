use Rattle.std.proofs.Common.{length}
use Rattle.bdb_law_turned.specs.of_format.Terms.{index_end, offset_of}
use Rattle.bdb_stat.proofs.GapLemmas.{IsFalling}
use Rattle.bdb_stat.proofs.starts.bytes_between.Given as goal

-- The items so far lie one after another.
abbrev pub invariant-loop-i : goal.invariant-loop-i
invariant-loop-i g l =
    IsFalling (index_end l.order l.page) (length l.page) l.i (offset_of l.order l.page)
    (λ i. g.K.EndKind.end l.order l.page (offset_of l.order l.page i)) l.lowest l.outside
