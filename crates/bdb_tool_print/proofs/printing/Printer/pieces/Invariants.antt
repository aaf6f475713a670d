use Rattle.std.specs.List.{flat_map}
use Rattle.bdb_range.specs.of_format.Terms.{joined}
use Rattle.bdb_text.specs.of_text_format.Terms.{spelling}
use Rattle.bdb_tool_print.specs.Printers.{HasAdded}
use Rattle.bdb_tool_print.proofs.printing.Printer.pieces.Given as goal

-- What was printed, and the spellings of the pieces that are left, are those of all.
abbrev pub invariant-loop-piece : goal.invariant-loop-piece
invariant-loop-piece g l =
    HasAdded g.K.Sink.written g.K.Sink.faults l.initial.self l.self (flat_map (spelling l.print) l.piece-iterator) (spelling l.print (joined l.fn.pieces))
