use Rattle.std.proofs.Common.{arith, true}
use Rattle.bdb_spelling.proofs.SpellingLemmas.{printed_more, spelled_none}
use Rattle.bdb_spelling.proofs.printed.push_printed.Goals as goal

pub loop-byte-init : goal.loop-byte-init
loop-byte-init c = spelled_none true c.args.text.now

pub loop-byte-preserved : goal.loop-byte-preserved
loop-byte-preserved c = printed_more _ _ _ c.args.bytes.now c.loop-byte.byte-index (omega arith) c.loop-byte.invariant c.in_ok-push_byte.ensures.ok
