use Rattle.std.proofs.Common.{◌≡◌}
use Rattle.std.specs.List.{flat_map, list_any, range_with_len}
use Rattle.bdb_faults.specs.Notes.{Notes}
use Rattle.bdb_hash.specs.Noted.{bucket_faults, has_stray_in}
use Rattle.bdb_hash.proofs.contents.note_by_bucket.Given as goal

-- The buckets so far are noted, and it is known whether they have a stray.
abbrev pub invariant-loop-b : goal.invariant-loop-b
invariant-loop-b g l = record {
  noted : Notes (g.F.FaultSink.has_noted l.fn.found) (g.F.FaultSink.has_noted l.found)
      (flat_map (bucket_faults l.linked l.meta) (range_with_len 0 l.b));
  stray : l.passed.has_stray ≡ list_any (has_stray_in l.linked l.meta) (range_with_len 0 l.b);
  known : l.known ≡ l.linked;
}
