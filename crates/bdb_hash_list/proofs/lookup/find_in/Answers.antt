use Rattle.std.proofs.Common.{◌+◌}
use Rattle.bdb_buckets.specs.Told.{bucket_told}
use Rattle.bdb_buckets.specs.of_format.Terms.{file_of}
use Rattle.bdb_hash_list.proofs.LookupLemmas.{sought_found, sought_on}
use Rattle.bdb_hash_list.proofs.lookup.find_in.Goals as goal

pub loop-page-preserved : goal.loop-page-preserved
loop-page-preserved g c =
    rw c.tick.ensures
    (sought_on c.args.key.now
    (bucket_told c.args.linked.now c.args.meta.now c.args.bucket) c.loop-page.page-iterator c.next.new.self c.in-Some.page
    (c.args.steps.now + (file_of c.args.linked.now).count)
    c.loop-page.steps c.loop-page.invariant c.in-Some.ensures.steps c.in_default.ensures)

pub returns-in-Some-find_on-clause-pair : goal.returns-in-Some-find_on-clause-pair
returns-in-Some-find_on-clause-pair g c =
    sought_found c.args.key.now (bucket_told c.args.linked.now c.args.meta.now c.args.bucket) c.loop-page.page-iterator c.next.new.self c.in-Some.page
    (c.args.steps.now + (file_of c.args.linked.now).count)
    c.loop-page.steps c.in-Some-find_on.pair c.loop-page.invariant c.in-Some.ensures.steps c.in-Some-find_on.ensures
