use Rattle.std.specs.List.{flat_map}
use Rattle.bdb_tool_print.specs.of_model.Answers.{value_line, values_text}
use Rattle.bdb_tool_print.specs.Printers.{HasAdded}
use Rattle.bdb_tool_dump.proofs.listing.value_lines.Given as goal

-- What was printed, and the lines of the values that are left, are those of all.
abbrev pub invariant-loop-value : goal.invariant-loop-value
invariant-loop-value g l =
    HasAdded g.K.Sink.written g.K.Sink.faults l.initial.printer l.printer (flat_map (value_line l.print) l.value-iterator) (values_text l.print l.fn.values)
