use Rattle.bdb_buckets.proofs.BucketLemmas.{bucket_on_way}
use Rattle.bdb_buckets.proofs.bucket.bucket_pages.Goals as goal

pub invariant_of-result : goal.invariant_of-result
invariant_of-result c = rw (c.forest.ensures, c.number.ensures)
    (bucket_on_way c.args.linked.now c.bucket.result c.head.ensures.forest c.requires.stage c.bucket.ensures.fits)
