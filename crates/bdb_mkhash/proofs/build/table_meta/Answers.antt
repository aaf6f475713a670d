use Rattle.std.proofs.Common.{◌≤◌, arith, ◌^◌}
use Rattle.bdb_mkhash.proofs.BucketLemmas.{two_at_least}
use Rattle.bdb_mkhash.proofs.build.table_meta.Goals as goal

pub overflow_sub-result-3 : goal.overflow_sub-result-3
overflow_sub-result-3 c =
    let p : 2 ≤ 2 ^ c.args.bits = two_at_least c.args.bits c.requires.some in omega (arith, p, c.bucket_count-count.ensures.count)
