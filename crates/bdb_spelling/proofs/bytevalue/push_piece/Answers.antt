use Rattle.bdb_spelling.proofs.SpellingLemmas.{encode_lower-spelling}
use Rattle.bdb_spelling.proofs.bytevalue.push_piece.Goals as goal

pub returns-clause-ok : goal.returns-clause-ok
returns-clause-ok c =
    let digits = rw c.unwrap.ensures at c.encode_to_slice.ensures.written in
    let spelled = encode_lower-spelling c.args.piece.now (λ k. (c.type_inv.piece k).fits) in
    rw (digits, spelled) at c.push_all.ensures.ok
