use Rattle.std.proofs.Common.{arith}
use Rattle.bdb_hash.proofs.HashedLemmas.{sorted_missed}
use Rattle.bdb_hash.proofs.hashes.repeated_of.Goals as goal

pub returns : goal.returns
returns c =
    sorted_missed c.args.numbers.now.items c.sort_unstable.new.self.items c.loop-i.twice c.sort_unstable.ensures.permutation
    c.sort_unstable.ensures.sorted (λ k low. c.loop-i.invariant k (omega (arith, low, c.loop-i-test.false, c.len-i-end.ensures)))
