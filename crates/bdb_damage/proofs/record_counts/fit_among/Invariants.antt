use Rattle.std.proofs.Common.{◌≡◌, ◌≤◌, cond, take}
use Rattle.std.specs.List.{sum_by}
use Rattle.bdb_apart.specs.of_rescue.Kept.{file_in}
use Rattle.bdb_damage.specs.Tallies.{is_fit_at}
use Rattle.bdb_damage.proofs.record_counts.fit_among.Given as goal

-- Those that fit so far are counted.
abbrev pub invariant-loop-place : goal.invariant-loop-place
invariant-loop-place l = record {
  counted : l.count ≡ sum_by (λ place. cond (is_fit_at (file_in l.salvaged) l.holds l.start place) 1 0) (take l.place-index l.places);
  few : l.count ≤ l.place-index;
}
