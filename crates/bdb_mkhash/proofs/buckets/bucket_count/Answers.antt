use Rattle.std.proofs.Common.{◌^◌, ◌≤◌, arith}
use Rattle.std.proofs.Math.Pow.{pow_mono}
use Rattle.bdb_mkhash.proofs.buckets.bucket_count.Goals as goal

pub returns-clause-count : goal.returns-clause-count
returns-clause-count c = let p : 2 ^ c.args.bits ≤ 2 ^ 31 = pow_mono c.requires in omega (arith, p)

pub returns-clause-few : goal.returns-clause-few
returns-clause-few c = let p : 2 ^ c.args.bits ≤ 2 ^ 31 = pow_mono c.requires in omega (arith, p)
