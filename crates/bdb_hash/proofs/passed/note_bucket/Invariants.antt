use Rattle.std.proofs.Common.{◌≡◌}
use Rattle.bdb_buckets.specs.Chained.{AreAllOf}
use Rattle.bdb_hash.specs.Passed.{IsPassing}
use Rattle.bdb_buckets.specs.Told.{joined_pages}
use Rattle.bdb_hash.proofs.passed.note_bucket.Given as goal

-- All but those of the pages that are left are noted.
abbrev pub invariant-loop-page : goal.invariant-loop-page
invariant-loop-page g l = record {
  passing : IsPassing l.meta l.b (g.F.FaultSink.has_noted l.fn.found) (g.F.FaultSink.has_noted l.found) l.fn.passed l.passed (joined_pages l.fn.pages)
      (joined_pages l.page-iterator);
  same : l.known ≡ l.fn.known;
  here : AreAllOf l.fn.known l.page-iterator;
}
