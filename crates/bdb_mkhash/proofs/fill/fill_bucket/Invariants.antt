use Rattle.std.proofs.Common.{◌-◌, length}
use Rattle.bdb_mkhash.proofs.Common.{IsBucketOpen, units_seen}
use Rattle.bdb_mkhash.proofs.fill.fill_bucket.Given as goal

-- The units passed are on the pages so far.
abbrev pub invariant-loop-done : goal.invariant-loop-done
invariant-loop-done l = IsBucketOpen l.first l.fn.pages l.pages l.sorted (units_seen l.units) l.page l.done

abbrev pub decreases-loop-done : goal.decreases-loop-done
decreases-loop-done l = length l.units - l.done
