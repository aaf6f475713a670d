use Rattle.std.proofs.Common.{take, Ok, flat_map}
use Rattle.bdb_tool_lines.specs.Passing.{Passes}
use Rattle.bdb_tool_lines.specs.Telling.{fault_told}
use Rattle.bdb_tool_lines.proofs.telling.print_all.Given as goal

-- The lines of those before this one were added.
abbrev pub invariant-loop-i : goal.invariant-loop-i
invariant-loop-i g l = Passes g.K.Sink.written g.K.Sink.faults l.initial.printer l.printer (flat_map fault_told (take l.i l.all)) (Ok tt)
