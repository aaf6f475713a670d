use Rattle.std.proofs.Common.{◌+◌, arith}
use Rattle.bdb_faults.specs.of_format.Terms.{tail_rows}
use Rattle.bdb_faults.specs.of_format.Verdict.{holding}
use Rattle.bdb_image.proofs.FormedLemmas.{IsPaged, accepted_paged}
use Rattle.bdb_image.proofs.NotedLemmas.{none_noted, page_noted, tail_noted, zero_noted}
use Rattle.bdb_image.proofs.open.note_tail.Goals as goal

pub overflow_step-number : goal.overflow_step-number
overflow_step-number g c =
    let paged : IsPaged c.args.image.now c.args.head.now = accepted_paged c.args.image.now c.args.head.now c.requires in
    omega arith

pub loop-number-init : goal.loop-number-init
loop-number-init g c =
    none_noted (g.F.FaultSink.has_noted c.args.found.now) 1 (c.args.head.now.last + 1) (c.args.head.now.last + 1)
    (λ p. holding (tail_rows c.args.head.now c.args.image.now p)) (omega arith)

pub loop-number-preserved : goal.loop-number-preserved
loop-number-preserved g c =
    page_noted (g.F.FaultSink.has_noted c.args.found.now) (g.F.FaultSink.has_noted c.loop-number.found) (g.F.FaultSink.has_noted c.note_if.new.found) 1
    (c.args.head.now.last + 1) c.loop-number.number (λ p. holding (tail_rows c.args.head.now c.args.image.now p)) (omega arith) c.loop-number.invariant
    (zero_noted (g.F.FaultSink.has_noted c.loop-number.found) (g.F.FaultSink.has_noted c.note_if.new.found) c.args.image.now c.args.head.now
    c.loop-number.number c.is_zero-is_used.result c.page_bytes.result.now c.is_zero-is_used.ensures c.page_bytes.ensures.bytes c.in_ok-note_if.ensures.noted)

pub returns-clause-noted : goal.returns-clause-noted
returns-clause-noted g c =
    let paged : IsPaged c.args.image.now c.args.head.now = accepted_paged c.args.image.now c.args.head.now c.requires in
    tail_noted (g.F.FaultSink.has_noted c.args.found.now) (g.F.FaultSink.has_noted c.loop-number.found) c.args.image.now c.args.head.now c.loop-number.number
    c.requires.head_is (omega (arith, paged.last)) c.loop-number.invariant
