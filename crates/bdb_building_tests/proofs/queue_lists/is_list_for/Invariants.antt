use Rattle.bdb_need.specs.of_text_format.Terms.{pairs_of}
use Rattle.bdb_building_tests.specs.Queues.{MayStandFrom}
use Rattle.bdb_building_tests.proofs.queue_lists.is_list_for.Given as goal

-- the records from `i` on may stand in a queue
abbrev pub invariant-loop-i : goal.invariant-loop-i
invariant-loop-i l = MayStandFrom l.settings (pairs_of l.list) l.i l.beyond

abbrev pub decreases-loop-i : goal.decreases-loop-i
decreases-loop-i l = l.i
