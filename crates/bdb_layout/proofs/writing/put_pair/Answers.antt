use Rattle.std.proofs.Common.{◌+◌, arith}
use Rattle.bdb_format.specs.Terms.{spelled}
use Rattle.bdb_format.proofs.SpellingLemmas.{length-spelled, wrote, wrote_number}
use Rattle.bdb_layout.proofs.writing.put_pair.Goals as goal

-- The second number stands right behind the first.
pub returns : goal.returns
returns c =
    let first = wrote c.args.page.now c.args.at (spelled 4 c.args.order c.args.first) (c.args.at + 4) c.put_u32.ensures
    (omega (arith, length-spelled 4 c.args.order c.args.first)) (omega arith) in
    let both = wrote_number 4 c.args.order c.args.second (c.args.at + 8) first c.put_u32-2.ensures (omega arith) (omega arith) in
    both.is
