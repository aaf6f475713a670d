use Rattle.std.proofs.Common.{arith, w64}
use Rattle.std.proofs.lemmas.Nat.Bits.{bit_at-trailing_zeros}
use Rattle.bdb_stat.proofs.marks.first_bit.Goals as goal

pub returns : goal.returns
returns c =
    let lowest = bit_at-trailing_zeros w64 c.args.word c.requires (omega arith) in
    record { low = lowest.0; set = lowest.1; none = lowest.2 }
