use Rattle.std.proofs.Common.{sym}
use Rattle.bdb_any_order.proofs.OrderLemmas.{order_noted}
use Rattle.bdb_check.proofs.UnorderedLemmas.{passed_on}
use Rattle.bdb_recno.specs.of_format.Terms.{fault_at}
use Rattle.bdb_check.proofs.unordered.UnorderedFaultSink.note.Goals as goal

pub returns-then-is_of_order-clause-noted : goal.returns-then-is_of_order-clause-noted
returns-then-is_of_order-clause-noted g c =
    order_noted g.F.FaultSink.has_noted c.args.self.now.found c.args.self.now.is_empty (fault_at c.args.row c.args.page)
    (sym (c.if-is_of_order.ensures c.args.page))

pub returns-clause-noted : goal.returns-clause-noted
returns-clause-noted g c =
    passed_on g.F.FaultSink.has_noted c.args.self.now.found c.note.new.self c.args.self.now.is_empty (fault_at c.args.row c.args.page) c.note.result
    (sym (c.if-is_of_order.ensures c.args.page)) c.note.ensures.noted
