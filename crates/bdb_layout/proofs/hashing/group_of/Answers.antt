use Rattle.std.proofs.Common.{◌≡◌, ◌-◌, ◌<◌, ◌^◌, ◌∙◌, sym, arith}
use Rattle.std.proofs.lemmas.Nat.{leading_length}
use Rattle.std.specs.Int.Count.{count_leading_zeros}
use Rattle.bdb_layout.proofs.HashingLemmas.{group-is}
use Rattle.bdb_layout.proofs.hashing.group_of.Goals as goal

-- the bits that are left below the leading zeros are as many as the group
pub returns : goal.returns
returns c =
    let fits : c.args.bucket < 2 ^ 32 = omega arith in
    let (m, both, below, most) = leading_length 32 c.args.bucket fits in
    let digits : 32 - count_leading_zeros 32 c.args.bucket ≡ m = omega arith in
    digits ∙ sym (group-is c.args.bucket m (omega arith) below most)
