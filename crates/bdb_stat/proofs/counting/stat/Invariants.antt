use Rattle.std.proofs.Common.{◌≡◌, length}
use Rattle.bdb_law_turned.specs.of_format.Terms.{file_of}
use Rattle.bdb_stat.proofs.StatLemmas.{IsBelow}
use Rattle.bdb_stat.proofs.counting.stat.Given as goal

-- These are the figures of the pages so far.
abbrev pub invariant-loop-number : goal.invariant-loop-number
invariant-loop-number l = record {
  below : IsBelow (file_of l.linked) l.number l.stat;
  long : length l.starts ≡ l.head.page_size;
}
