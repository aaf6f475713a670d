use Rattle.std.proofs.Common.{arith, false}
use Rattle.bdb_spelling.proofs.SpellingLemmas.{digits_more, spelled_none}
use Rattle.bdb_spelling.proofs.bytevalue.push_digits.Goals as goal

pub loop-done-init : goal.loop-done-init
loop-done-init c = (omega arith, spelled_none false c.args.text.now)

pub loop-done-preserved : goal.loop-done-preserved
loop-done-preserved c = (
  omega arith,
  digits_more _ _ _ c.args.bytes.now c.loop-done.done c.min-end.result (omega arith) c.loop-done.invariant.1
      c.in_ok-push_piece.ensures.ok,
)
