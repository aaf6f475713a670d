use Rattle.std.proofs.Common.{sym}
use Rattle.bdb_buckets.proofs.BucketLemmas.{after_hash}
use Rattle.bdb_buckets.proofs.PairLemmas.{all_given}
use Rattle.bdb_buckets.proofs.pairs.page_pairs.Goals as goal

pub over-requires : goal.over-requires
over-requires c = rw c.iter.ensures
    (all_given c.args.forest.now c.args.page c.in-Hash.view c.requires.table c.requires.bucket.inside (sym c.in-Hash.ensures.page))

pub returns-in-Hash-clause-way : goal.returns-in-Hash-clause-way
returns-in-Hash-clause-way c = rw c.header-next.ensures
    (after_hash c.args.forest.now c.args.page c.in-Hash.view c.requires.table c.requires.bucket.inside (sym c.in-Hash.ensures.page))
