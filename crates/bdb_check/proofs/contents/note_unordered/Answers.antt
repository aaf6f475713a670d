use Rattle.std.proofs.Common.{subst}
use Rattle.bdb_recno.specs.of_faults.Notes.{NotesAll}
use Rattle.bdb_any_order.specs.Noted.{by_asked}
use Rattle.bdb_any_order.specs.declared.rows.Which.TheVariants.{Master}
use Rattle.bdb_recno.specs.of_format.Terms.{file_of}
use Rattle.bdb_any_order.proofs.OrderLemmas.{order_contents}
use Rattle.bdb_check.proofs.contents.note_unordered.Goals as goal

pub returns : goal.returns
returns g c =
    order_contents g.F.FaultSink.has_noted c.args.linked.now c.before-others.result.found c.note_databases.new.found.found c.before-others.result.is_empty
    c.note_databases.new.found.is_empty (g.F.FaultSink.has_noted c.note_databases-2.new.found) c.before-others.ensures c.in_ok-note_databases.ensures.noted
    (subst (λ sink. NotesAll (g.F.FaultSink.has_noted sink) (g.F.FaultSink.has_noted c.note_databases-2.new.found)
    (by_asked Master (file_of c.args.linked.now)))
    c.into_sink-found.ensures c.in_ok-note_databases-2.ensures.noted)
