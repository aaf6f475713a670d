use Rattle.std.proofs.Common.{refl}
use Rattle.bdb_spelling.proofs.SpellingLemmas.{encode_lower-spelling}
use Rattle.bdb_spelling.proofs.bytevalue.fill_line.Goals as goal

pub returns : goal.returns
returns c =
    let digits = rw c.unwrap.ensures at c.encode_to_slice.ensures.written in
    let spelled = encode_lower-spelling c.args.value.now (λ k. (c.type_inv.value k).fits) in
    rw (digits, spelled) refl
