use Rattle.bdb_recno.specs.of_format.Terms.{file_of}
use Rattle.bdb_any_order.proofs.DatabaseLemmas.{no_queue_noted}
use Rattle.bdb_check.proofs.contents.note_database.Goals as goal

pub returns-in-Btree-clause-noted : goal.returns-in-Btree-clause-noted
returns-in-Btree-clause-noted g c = rw c.in-Btree.is c.note_contents.ensures.noted

pub returns-in-Btree-2-clause-noted : goal.returns-in-Btree-2-clause-noted
returns-in-Btree-2-clause-noted g c = rw c.in-Btree-2.is c.note_contents-in-Btree-2.ensures

pub returns-in-Hash-clause-noted : goal.returns-in-Hash-clause-noted
returns-in-Hash-clause-noted g c = rw c.in-Hash.is c.note_contents-in-Hash.ensures.noted

pub returns-in-Queue-clause-noted : goal.returns-in-Queue-clause-noted
returns-in-Queue-clause-noted g c = rw c.in-Queue.is (no_queue_noted (g.F.FaultSink.has_noted c.args.found.now) (file_of c.args.linked.now) c.in-Queue.field-0)
