use Rattle.bdb_any_order.proofs.OrderLemmas.{all_contents}
use Rattle.bdb_check.proofs.contents.note_contents.Goals as goal

pub returns-in-All : goal.returns-in-All
returns-in-All g c =
    rw c.in-All.is
    (all_contents c.args.linked.now (g.F.FaultSink.has_noted c.args.found) (g.F.FaultSink.has_noted c.note_databases.new.found) c.requires.begun
    c.in_ok-note_databases-in-All.ensures.noted)

pub returns : goal.returns
returns g c = rw c.in-AnyOrder.is c.note_unordered.ensures
