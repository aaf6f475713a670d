use Rattle.std.proofs.Common.{arith}
use Rattle.bdb_format.specs.Terms.{recno_bytes}
use Rattle.bdb_format.proofs.SpellingLemmas.{length-pair}
use Rattle.bdb_layout.proofs.writing.put_recno_item.Goals as goal

pub put_pair-requires : goal.put_pair-requires
unfolding recno_bytes
put_pair-requires c = omega (arith, c.requires, length-pair c.args.order c.args.item.now.child c.args.item.now.count)

pub returns : goal.returns
unfolding recno_bytes
returns c = c.put_pair.ensures
