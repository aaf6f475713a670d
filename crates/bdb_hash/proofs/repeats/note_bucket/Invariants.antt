use Rattle.std.proofs.Common.{◌≡◌}
use Rattle.bdb_buckets.specs.Chained.{AreAllOf}
use Rattle.bdb_hash.specs.Passed.{IsNoting}
use Rattle.bdb_buckets.specs.Told.{joined_pages}
use Rattle.bdb_hash.proofs.repeats.note_bucket.Given as goal

-- All but those of the pages that are left are noted.
abbrev pub invariant-loop-page : goal.invariant-loop-page
invariant-loop-page g l = record {
  noting : IsNoting l.fn.keys.keys l.keys.keys (g.F.FaultSink.has_noted l.fn.found) (g.F.FaultSink.has_noted l.found) (joined_pages l.fn.pages)
      (joined_pages l.page-iterator);
  same : l.keys.image ≡ l.fn.keys.image;
  here : AreAllOf l.fn.keys.image l.page-iterator;
}
