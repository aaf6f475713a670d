use Rattle.std.proofs.Common.{◌+◌, ◌++◌, ◌∷◌, [], arith}
use Rattle.bdb_format.specs.Terms.{spelled}
use Rattle.bdb_format.proofs.SpellingLemmas.{length-pair, wrote, wrote_next}
use Rattle.bdb_layout.proofs.writing.put_off_page.Goals as goal

-- The numbers stand right behind the four bytes of the kind.
pub returns : goal.returns
returns c =
    let order = c.args.order in
    let kind = wrote c.args.page.now c.args.at (0 ∷ 0 ∷ c.args.kind ∷ 0 ∷ []) (c.args.at + 4) c.put_bytes.ensures (omega arith) (omega arith) in
    let all = wrote_next (spelled 4 order c.args.first ++ spelled 4 order c.args.second) (c.args.at + 12) kind c.put_pair.ensures
    (omega (arith, length-pair order c.args.first c.args.second)) (omega arith) in
    all.is
