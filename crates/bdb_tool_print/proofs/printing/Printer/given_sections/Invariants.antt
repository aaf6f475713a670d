use Rattle.std.specs.List.{flat_map}
use Rattle.bdb_damage.specs.of_apart.Text.{db_section}
use Rattle.bdb_tool_print.specs.Printers.{HasAdded}
use Rattle.bdb_tool_print.proofs.printing.Printer.given_sections.Given as goal

-- What was printed, and the sections of the databases that are left, are those of all.
abbrev pub invariant-loop-db : goal.invariant-loop-db
invariant-loop-db g l =
    HasAdded g.K.Sink.written g.K.Sink.faults l.initial.self l.self (flat_map (db_section l.print) l.db-iterator) (flat_map (db_section l.print) l.fn.dbs)
