use Rattle.std.proofs.Common.{◌+◌, ◌∷◌, [], length, arith}
use Rattle.bdb_format.proofs.SpellingLemmas.{wrote, wrote_next}
use Rattle.bdb_layout.proofs.writing.put_hash_bytes.Goals as goal

-- The bytes stand right behind the kind.
pub returns : goal.returns
returns c =
    let bytes = c.args.bytes.now in
    let kind = wrote c.args.page.now c.args.at (c.args.kind ∷ []) (c.args.at + 1) c.put_byte.ensures (omega arith) (omega arith) in
    let all = wrote_next bytes (c.args.at + 1 + length bytes) kind c.put_bytes.ensures (omega arith) (omega arith) in
    all.is
