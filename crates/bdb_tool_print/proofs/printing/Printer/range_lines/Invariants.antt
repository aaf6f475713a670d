use Rattle.std.specs.List.{flat_map}
use Rattle.bdb_tool_lines.specs.of_model.Answers.{pair_lines, pairs_text}
use Rattle.bdb_tool_print.specs.Printers.{HasAdded}
use Rattle.bdb_tool_print.proofs.printing.Printer.range_lines.Given as goal

-- What was printed, and the lines of the pairs that are left, are those of all.
abbrev pub invariant-loop-key : goal.invariant-loop-key
invariant-loop-key g l =
    HasAdded g.K.Sink.written g.K.Sink.faults l.initial.self l.self (flat_map (pair_lines l.print) l.key-iterator) (pairs_text l.print l.fn.pairs)
