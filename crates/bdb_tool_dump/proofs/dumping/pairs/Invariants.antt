use Rattle.std.specs.List.{flat_map}
use Rattle.bdb_tool_print.specs.Printers.{HasAdded, pair_text}
use Rattle.bdb_tool_dump.proofs.dumping.pairs.Given as goal

-- What was printed, and the lines of the pairs that are left, are those of all.
abbrev pub invariant-loop-key : goal.invariant-loop-key
invariant-loop-key g l =
    HasAdded g.K.Sink.written g.K.Sink.faults l.initial.printer l.printer (flat_map (pair_text l.print) l.list) (flat_map (pair_text l.print) l.fn.list)
