use Rattle.std.proofs.Common.{◌+◌, ◌++◌, ◌∷◌, [], length, arith, append_assoc}
use Rattle.bdb_format.specs.Terms.{spelled}
use Rattle.bdb_format.proofs.SpellingLemmas.{length-spelled, wrote, wrote_as, wrote_next}
use Rattle.bdb_layout.proofs.writing.put_on_page.Goals as goal

-- The length, the kind and the bytes stand one behind the other.
pub returns : goal.returns
returns c =
    let bytes = c.args.bytes.now in
    let size = spelled 2 c.args.order (length bytes) in
    let first = wrote c.args.page.now c.args.at size (c.args.at + 2) c.put_u16.ensures (omega (arith, length-spelled 2 c.args.order (length bytes)))
    (omega arith) in
    let kind = wrote_next (c.args.kind ∷ []) (c.args.at + 3) first c.put_byte.ensures (omega arith) (omega arith) in
    let all = wrote_next bytes (c.args.at + 3 + length bytes) kind c.put_bytes.ensures (omega arith) (omega arith) in
    wrote_as (size ++ (c.args.kind ∷ bytes)) all (append_assoc size (c.args.kind ∷ []) bytes)
