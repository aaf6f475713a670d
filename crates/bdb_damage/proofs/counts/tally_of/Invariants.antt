use Rattle.std.proofs.Common.{◌≡◌, ◌++◌, ◌*◌, ◌≤◌, length}
use Rattle.std.specs.List.{sum_by}
use Rattle.bdb_apart.specs.of_rescue.Kept.{file_in}
use Rattle.bdb_apart.specs.Kept.{row_in}
use Rattle.bdb_damage.specs.Tallies.{tally_on}
use Rattle.bdb_damage.proofs.counts.tally_of.Given as goal

-- What the pages so far have is counted.
abbrev pub invariant-loop-page : goal.invariant-loop-page
invariant-loop-page l = record {
  counted : l.count ≡ sum_by (λ p. tally_on l.tally (file_in l.database.reading) l.holds p) l.yielded;
  few : l.count ≤ length l.yielded * 4398046511104;
  all : l.yielded ++ l.page-iterator ≡ row_in l.database.reading l.database.db.meta;
}
