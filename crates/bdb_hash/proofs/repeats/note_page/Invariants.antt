use Rattle.std.proofs.Common.{◌≡◌}
use Rattle.bdb_buckets.specs.Chained.{AreOf}
use Rattle.bdb_hash.specs.Passed.{IsNoting}
use Rattle.bdb_hash.proofs.repeats.note_page.Given as goal

-- All but those that are left are noted.
abbrev pub invariant-loop-pair : goal.invariant-loop-pair
invariant-loop-pair g l = record {
  noting : IsNoting l.fn.keys.keys l.keys.keys (g.F.FaultSink.has_noted l.fn.found) (g.F.FaultSink.has_noted l.found) l.fn.page l.pair-iterator;
  same : l.keys.image ≡ l.fn.keys.image;
  here : AreOf l.fn.keys.image l.pair-iterator;
}
