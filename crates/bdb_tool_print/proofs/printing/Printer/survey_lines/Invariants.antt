use Rattle.std.specs.List.{flat_map}
use Rattle.bdb_tool_print.specs.Printers.{HasAdded}
use Rattle.bdb_tool_print.specs.Survey.{found_line}
use Rattle.bdb_tool_print.proofs.printing.Printer.survey_lines.Given as goal

-- What was printed, and the lines of the databases that are left, are those of all.
abbrev pub invariant-loop-db : goal.invariant-loop-db
invariant-loop-db g l =
    HasAdded g.K.Sink.written g.K.Sink.faults l.initial.self l.self (flat_map found_line l.db-iterator) (flat_map found_line l.fn.dbs)
