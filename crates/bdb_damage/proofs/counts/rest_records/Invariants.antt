use Rattle.std.proofs.Common.{◌≡◌, ◌*◌, ◌≤◌, length}
use Rattle.std.specs.List.{range_with_len, sum_by}
use Rattle.bdb_apart.specs.of_rescue.Kept.{file_in}
use Rattle.bdb_apart.specs.Found.{found}
use Rattle.bdb_apart.specs.Given.{records_left_on}
use Rattle.bdb_damage.proofs.counts.rest_records.Given as goal

-- What is left of the pages so far is counted.
abbrev pub invariant-loop-page : goal.invariant-loop-page
invariant-loop-page l = record {
  counted : l.count ≡ sum_by (λ p. length (records_left_on (file_in l.apart) (found l.apart) p)) (range_with_len 0 l.page);
  few : l.count ≤ l.page * 4294967295;
}
