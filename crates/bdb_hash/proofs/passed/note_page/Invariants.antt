use Rattle.std.proofs.Common.{◌≡◌}
use Rattle.bdb_buckets.specs.Chained.{AreOf}
use Rattle.bdb_hash.specs.Passed.{IsPassing}
use Rattle.bdb_hash.proofs.passed.note_page.Given as goal

-- All but those that are left are noted.
abbrev pub invariant-loop-pair : goal.invariant-loop-pair
invariant-loop-pair g l = record {
  passing : IsPassing l.meta l.b (g.F.FaultSink.has_noted l.fn.found) (g.F.FaultSink.has_noted l.found) l.fn.passed l.passed l.fn.page l.pair-iterator;
  same : l.known ≡ l.fn.known;
  here : AreOf l.fn.known l.pair-iterator;
}
