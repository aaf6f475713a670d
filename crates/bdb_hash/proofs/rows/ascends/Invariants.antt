use Rattle.std.proofs.Common.{◌≡◌}
use Rattle.bdb_ranks.specs.of_overflow.Datum.{datum_seen}
use Rattle.bdb_ranks.specs.of_format.Terms.{ascends, ascends_from}
use Rattle.bdb_hash.proofs.rows.ascends.Given as goal

-- The data that are left, after the last one passed, ascend where all do.
abbrev pub invariant-loop-next : goal.invariant-loop-next
invariant-loop-next l = ascends_from (datum_seen l.last) l.next-iterator ≡ ascends l.fn.values
