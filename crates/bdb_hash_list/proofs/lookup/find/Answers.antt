use Rattle.std.proofs.Common.{Some, None, ◌∙◌}
use Rattle.bdb_hash_list.proofs.LookupLemmas.{list_found}
use Rattle.bdb_hash_list.proofs.lookup.find.Goals as goal

-- The first pair with the key in its bucket is the only one with it.
pub returns-in-Some-clause-data : goal.returns-in-Some-clause-data
returns-in-Some-clause-data g c =
    c.into_data.ensures
    ∙ list_found c.args.linked.now c.args.meta.now c.args.key.now c.bucket_of_bytes-bucket.result (Some c.in-Some.pair)
    c.bucket_of_bytes-bucket.ensures.table c.requires.meta c.requires.contents
    c.bucket_of_bytes-bucket.ensures.bucket c.bucket_of_bytes-bucket.ensures.within c.in-Some.ensures.pair

pub returns-in-None-clause-data : goal.returns-in-None-clause-data
returns-in-None-clause-data g c =
    c.none.ensures
    ∙ list_found c.args.linked.now c.args.meta.now c.args.key.now c.bucket_of_bytes-bucket.result None
    c.bucket_of_bytes-bucket.ensures.table c.requires.meta c.requires.contents
    c.bucket_of_bytes-bucket.ensures.bucket c.bucket_of_bytes-bucket.ensures.within c.in-None.ensures.pair
