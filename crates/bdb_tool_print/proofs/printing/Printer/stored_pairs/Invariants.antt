use Rattle.std.proofs.Common.{map, flat_map}
use Rattle.bdb_tool_print.specs.Printers.{HasAdded, pair_text}
use Rattle.bdb_damage.specs.of_rescue.Text.{bytes_pair}
use Rattle.bdb_tool_print.proofs.printing.Printer.stored_pairs.Given as goal

-- What was printed, and the lines of the pairs that are left, are those of all.
abbrev pub invariant-loop-key : goal.invariant-loop-key
invariant-loop-key g l =
    HasAdded g.K.Sink.written g.K.Sink.faults l.initial.self l.self (flat_map (pair_text l.print) (map bytes_pair l.key-iterator))
    (flat_map (pair_text l.print) (map bytes_pair l.fn.pairs))
