use Rattle.std.proofs.Common.{◌≡◌}
use Rattle.std.specs.List.{filter, flat_map, range_with_len}
use Rattle.bdb_hash.specs.Passed.{NotesRepeats, is_kept}
use Rattle.bdb_buckets.specs.Told.{bucket_told}
use Rattle.bdb_hash.proofs.strays.note_whole.Given as goal

-- The pairs of the buckets so far are noted.
abbrev pub invariant-loop-b : goal.invariant-loop-b
invariant-loop-b g l = record {
  noted : NotesRepeats l.initial.keys.keys l.keys.keys (g.F.FaultSink.has_noted l.fn.found) (g.F.FaultSink.has_noted l.found)
      (filter (is_kept l.twice) (flat_map (bucket_told l.linked l.meta) (range_with_len 0 l.b)));
  seen : l.keys.image ≡ l.linked;
  known : l.known ≡ l.linked;
}
