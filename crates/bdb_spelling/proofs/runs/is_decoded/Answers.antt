use Rattle.std.proofs.Common.{◌/◌, arith, length}
use Rattle.bdb_spelling.proofs.RunLemmas.{decode_done, decode_refused, decode_start, decode_step, spelled-odd}
use Rattle.bdb_spelling.proofs.runs.is_decoded.Goals as goal

pub returns-then-run-ne0 : goal.returns-then-run-ne0
returns-then-run-ne0 c = spelled-odd c.args.run.now (length c.args.run.now / 2) (omega arith)

pub loop-i-init : goal.loop-i-init
loop-i-init c = decode_start c.args.run.now c.args.bytes.now

pub loop-i-preserved : goal.loop-i-preserved
loop-i-preserved c =
    decode_step c.args.run.now c.loop-i.bytes c.loop-i.i c.in-Some.byte (omega arith) (omega arith) c.in-Some.ensures c.loop-i.invariant

pub returns-in_default : goal.returns-in_default
returns-in_default c = decode_refused c.args.run.now c.loop-i.bytes c.loop-i.i (omega arith) c.in_default.ensures c.loop-i.invariant

pub returns : goal.returns
returns c = decode_done c.args.run.now c.loop-i.bytes c.loop-i.i (omega arith) (omega arith) c.loop-i.invariant
