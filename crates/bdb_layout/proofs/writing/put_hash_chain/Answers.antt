use Rattle.std.proofs.Common.{◌+◌, ◌++◌, ◌∷◌, [], arith}
use Rattle.bdb_format.specs.Terms.{spelled}
use Rattle.bdb_format.proofs.SpellingLemmas.{length-pair, wrote, wrote_next}
use Rattle.bdb_layout.proofs.writing.put_hash_chain.Goals as goal

-- The numbers stand right behind the four bytes of the kind.
pub returns : goal.returns
returns c =
    let order = c.args.order in
    let kind = wrote c.args.page.now c.args.at (3 ∷ 0 ∷ 0 ∷ 0 ∷ []) (c.args.at + 4) c.put_bytes.ensures (omega arith) (omega arith) in
    let all = wrote_next (spelled 4 order c.args.head ++ spelled 4 order c.args.total) (c.args.at + 12) kind c.put_pair.ensures
    (omega (arith, length-pair order c.args.head c.args.total)) (omega arith) in
    all.is
