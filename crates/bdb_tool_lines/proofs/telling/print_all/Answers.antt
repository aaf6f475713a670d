use Rattle.std.proofs.Common.{arith, rules}
use Rattle.bdb_tool_lines.specs.Telling.{fault_told, faults_text}
use Rattle.bdb_tool_lines.proofs.PassingLemmas.{all_passed, place_cut, place_passed}
use Rattle.bdb_tool_lines.proofs.telling.print_all.Goals as goal

pub loop-i-preserved : goal.loop-i-preserved
loop-i-preserved g c =
    place_passed g.K.Sink.written g.K.Sink.faults c.args.printer.now c.loop-i.printer c.item.new.self fault_told c.args.all.now c.loop-i.i c.item.result
    (omega (arith, c.loop-i-test.true, c.len-i-end.ensures)) c.in_ok-item.was c.loop-i.invariant c.item.ensures.passes

pub returns-in_err-item-clause-passes : goal.returns-in_err-item-clause-passes
unfolding faults_text
returns-in_err-item-clause-passes g c =
    place_cut g.K.Sink.written g.K.Sink.faults c.args.printer.now c.loop-i.printer c.item.new.self fault_told c.args.all.now c.loop-i.i c.item.result
    c.from_residual.result
    c.in_err-item.field-0.0 (omega (arith, c.loop-i-test.true, c.len-i-end.ensures)) c.in_err-item.was (search rules) c.loop-i.invariant c.item.ensures.passes

pub returns-clause-passes : goal.returns-clause-passes
unfolding faults_text
returns-clause-passes g c =
    all_passed g.K.Sink.written g.K.Sink.faults c.args.printer.now c.loop-i.printer fault_told c.args.all.now c.loop-i.i
    (omega (arith, c.loop-i-test.false, c.len-i-end.ensures)) c.loop-i.invariant
