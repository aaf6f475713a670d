use Rattle.std.proofs.Common.{◌≡◌}
use Rattle.bdb_overflow.specs.of_format.Terms.{file_of}
use Rattle.bdb_queue.specs.Records.{left_from}
use Rattle.bdb_queue.proofs.walk.first_from.Given as goal

-- What is left from this slot of this page on is what was left from the first place on.
abbrev pub invariant-loop-page : goal.invariant-loop-page
invariant-loop-page l = left_from (file_of l.forest) l.meta l.fn.place.page l.fn.place.slot ≡ left_from (file_of l.forest) l.meta l.page l.slot
