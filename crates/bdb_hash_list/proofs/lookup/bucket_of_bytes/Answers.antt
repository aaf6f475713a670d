use Rattle.std.proofs.Common.{◌≤◌, arith}
use Rattle.bdb_hash_list.proofs.MaskLemmas.{bucket_within}
use Rattle.bdb_hash_list.proofs.lookup.bucket_of_bytes.Goals as goal

pub prove-unreachable-requires : goal.prove-unreachable-requires
prove-unreachable-requires c =
    let few : c.bucket_of-bucket.result ≤ c.args.meta.now.max_bucket =
    rw c.bucket_of-bucket.ensures (bucket_within c.args.linked.now c.args.meta.now c.hash5.result c.buckets.ensures.table.forest c.requires.meta) in
    omega (arith, c.buckets.ensures.count)
