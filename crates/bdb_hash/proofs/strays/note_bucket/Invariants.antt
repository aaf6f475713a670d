use Rattle.std.proofs.Common.{◌≡◌, filter}
use Rattle.bdb_buckets.specs.Chained.{AreAllOf}
use Rattle.bdb_hash.specs.Passed.{IsNoting, is_kept}
use Rattle.bdb_buckets.specs.Told.{joined_pages}
use Rattle.bdb_hash.proofs.strays.note_bucket.Given as goal

-- All but those of the pages that are left are noted.
abbrev pub invariant-loop-page : goal.invariant-loop-page
invariant-loop-page g l = record {
  noting : IsNoting l.fn.keys.keys l.keys.keys (g.F.FaultSink.has_noted l.fn.found) (g.F.FaultSink.has_noted l.found)
      (filter (is_kept l.twice) (joined_pages l.fn.pages)) (filter (is_kept l.twice) (joined_pages l.page-iterator));
  seen : l.keys.image ≡ l.fn.keys.image;
  known : l.known ≡ l.fn.known;
  here : AreAllOf l.fn.keys.image l.page-iterator;
  there : AreAllOf l.fn.known l.page-iterator;
}
