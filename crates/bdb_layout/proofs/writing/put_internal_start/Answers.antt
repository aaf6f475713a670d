use Rattle.std.proofs.Common.{◌+◌, ◌++◌, ◌∷◌, [], arith, append_assoc}
use Rattle.bdb_format.specs.Terms.{spelled}
use Rattle.bdb_format.proofs.SpellingLemmas.{length-spelled, length-pair, wrote, wrote_as, wrote_next}
use Rattle.bdb_layout.proofs.writing.put_internal_start.Goals as goal

-- The length, the kind and the two numbers stand one behind the other.
pub returns : goal.returns
returns c =
    let order = c.args.order in
    let size = spelled 2 order c.args.size in
    let numbers = spelled 4 order c.args.item.now.child ++ spelled 4 order c.args.item.now.count in
    let first = wrote c.args.page.now c.args.at size (c.args.at + 2) c.put_u16.ensures (omega (arith, length-spelled 2 order c.args.size)) (omega arith) in
    let kind = wrote_next (c.args.kind ∷ 0 ∷ []) (c.args.at + 4) first c.put_bytes.ensures (omega arith) (omega arith) in
    let all = wrote_next numbers (c.args.at + 12) kind c.put_pair.ensures (omega (arith, length-pair order c.args.item.now.child c.args.item.now.count))
    (omega arith) in
    wrote_as (size ++ (c.args.kind ∷ 0 ∷ numbers)) all (append_assoc size (c.args.kind ∷ 0 ∷ []) numbers)
