use Rattle.std.proofs.Common.{◌≡◌, ◌+◌, length, map}
use Rattle.std.specs.List.{enumerate_from, flat_map}
use Rattle.bdb_tool_print.specs.Printers.{HasAdded, pair_text}
use Rattle.bdb_damage.specs.of_rescue.Text.{numbered_record}
use Rattle.bdb_tool_print.proofs.printing.Printer.records_left.Given as goal

-- So many records were printed, and what was printed, and the lines of those that are left, are those of all.
abbrev pub invariant-loop-record : goal.invariant-loop-record
invariant-loop-record g l =
    (l.number + length l.record-iterator ≡ length l.fn.records)
    × HasAdded g.K.Sink.written g.K.Sink.faults l.initial.self l.self
    (flat_map (pair_text l.print) (map numbered_record (enumerate_from (l.number + 1) l.record-iterator)))
    (flat_map (pair_text l.print) (map numbered_record (enumerate_from 1 l.fn.records)))
