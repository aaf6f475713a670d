use Rattle.std.proofs.Common.{◌∷◌, [], arith, append_assoc}
use Rattle.bdb_format.specs.Terms.{header_bytes, lsn_bytes}
use Rattle.bdb_format.proofs.SpellingLemmas.{length-pair, wrote, wrote_as, wrote_next, wrote_number}
use Rattle.bdb_layout.proofs.writing.put_header.Goals as goal

-- The fields were written one behind the other.
pub returns : goal.returns
unfolding header_bytes
returns c =
    let order = c.args.order in
    let header = c.args.header.now in
    let lsn = wrote c.args.page.now 0 (lsn_bytes order) 8 c.put_pair.ensures (omega (arith, length-pair order 0 1)) (omega arith) in
    let number = wrote_number 4 order header.number 12 lsn c.put_u32.ensures (omega arith) (omega arith) in
    let previous = wrote_number 4 order header.previous 16 number c.put_u32-2.ensures (omega arith) (omega arith) in
    let next = wrote_number 4 order header.next 20 previous c.put_u32-3.ensures (omega arith) (omega arith) in
    let entries = wrote_number 2 order header.entries 22 next c.put_u16.ensures (omega arith) (omega arith) in
    let high_free = wrote_number 2 order header.high_free 24 entries c.put_u16-2.ensures (omega arith) (omega arith) in
    let all = wrote_next (header.level ∷ header.page_type ∷ []) 26 high_free c.put_bytes.ensures (omega arith) (omega arith) in
    wrote_as (header_bytes order header) all (simp append_assoc)
