use Rattle.std.specs.List.{flat_map}
use Rattle.bdb_tool_print.specs.Printers.{HasAdded}
use Rattle.bdb_tool_print.specs.Survey.{refused_line}
use Rattle.bdb_tool_print.proofs.printing.Printer.refused_lines.Given as goal

-- What was printed, and the lines of the pages that are left, are those of all.
abbrev pub invariant-loop-named : goal.invariant-loop-named
invariant-loop-named g l =
    HasAdded g.K.Sink.written g.K.Sink.faults l.initial.self l.self (flat_map refused_line l.named-iterator) (flat_map refused_line l.fn.pages)
