use Rattle.std.proofs.Common.{map}
use Rattle.std.specs.List.{flat_map}
use Rattle.bdb_tool_print.specs.Printers.{HasAdded, pair_text}
use Rattle.bdb_damage.specs.of_rescue.Text.{numbered_record}
use Rattle.bdb_tool_print.proofs.printing.Printer.given_records.Given as goal

-- What was printed, and the lines of the pairs that are left, are those of all.
abbrev pub invariant-loop-number : goal.invariant-loop-number
invariant-loop-number g l =
    HasAdded g.K.Sink.written g.K.Sink.faults l.initial.self l.self (flat_map (pair_text l.print) (map numbered_record l.number-iterator))
    (flat_map (pair_text l.print) (map numbered_record l.fn.records))
