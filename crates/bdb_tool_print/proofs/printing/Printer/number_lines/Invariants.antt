use Rattle.std.specs.List.{flat_map}
use Rattle.bdb_tool_print.specs.Printers.{HasAdded}
use Rattle.bdb_tool_print.specs.Survey.{number_line}
use Rattle.bdb_tool_print.proofs.printing.Printer.number_lines.Given as goal

-- What was printed, and the lines of the pages that are left, are those of all.
abbrev pub invariant-loop-page : goal.invariant-loop-page
invariant-loop-page g l =
    HasAdded g.K.Sink.written g.K.Sink.faults l.initial.self l.self (flat_map number_line l.page-iterator) (flat_map number_line l.fn.pages)
