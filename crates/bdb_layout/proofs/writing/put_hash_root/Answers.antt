use Rattle.std.proofs.Common.{◌+◌, ◌∷◌, [], arith}
use Rattle.bdb_format.proofs.SpellingLemmas.{wrote, wrote_number}
use Rattle.bdb_layout.proofs.writing.put_hash_root.Goals as goal

-- The root stands right behind the four bytes of the kind.
pub returns : goal.returns
returns c =
    let kind = wrote c.args.page.now c.args.at (4 ∷ 0 ∷ 0 ∷ 0 ∷ []) (c.args.at + 4) c.put_bytes.ensures (omega arith) (omega arith) in
    let all = wrote_number 4 c.args.order c.args.root (c.args.at + 8) kind c.put_u32.ensures (omega arith) (omega arith) in
    all.is
