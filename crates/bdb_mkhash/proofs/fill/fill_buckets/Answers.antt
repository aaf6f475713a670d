use Rattle.std.proofs.Common.{◌∙◌, [], ap, arith, length, map, sym}
use Rattle.bdb_mkhash.proofs.Common.{get_or-map, length-map, units_seen}
use Rattle.bdb_mkhash.proofs.TableLemmas.{at_bucket, bucket_next}
use Rattle.bdb_mkhash.proofs.fill.fill_buckets.Goals as goal

pub fill_bucket-requires-clause-there : goal.fill_bucket-requires-clause-there
fill_bucket-requires-clause-there c =
    let long = length-map c.args.buckets.now (λ bucket. units_seen bucket.items) in
    (at_bucket c.args.first (length c.args.buckets.now) c.loop-units.units-index c.loop-units.page c.args.pages.now c.loop-units.pages c.args.sorted
    (map (λ bucket. units_seen bucket.items) c.args.buckets.now) c.requires.empty c.loop-units.invariant.1
    (omega (arith, long, c.loop-units-test.true)) long
    c.loop-units.invariant.0).0

pub fill_bucket-requires-clause-empty : goal.fill_bucket-requires-clause-empty
fill_bucket-requires-clause-empty c =
    let long = length-map c.args.buckets.now (λ bucket. units_seen bucket.items) in
    (at_bucket c.args.first (length c.args.buckets.now) c.loop-units.units-index c.loop-units.page c.args.pages.now c.loop-units.pages c.args.sorted
    (map (λ bucket. units_seen bucket.items) c.args.buckets.now) c.requires.empty c.loop-units.invariant.1
    (omega (arith, long, c.loop-units-test.true)) long
    c.loop-units.invariant.0).1

pub loop-units-preserved : goal.loop-units-preserved
loop-units-preserved c =
    let long = length-map c.args.buckets.now (λ bucket. units_seen bucket.items) in (
      omega (arith, c.loop-units.invariant.0),
      bucket_next c.args.first (length c.args.buckets.now) c.loop-units.units-index c.loop-units.page c.args.pages.now c.loop-units.pages
          c.fill_bucket.new.pages c.args.sorted (map (λ bucket. units_seen bucket.items) c.args.buckets.now) (units_seen c.as_slice.result.now)
          c.requires.empty c.loop-units.invariant.1 (omega (arith, long, c.loop-units-test.true)) long c.loop-units.invariant.0
          (ap units_seen c.as_slice.ensures.value ∙ (ap (λ bucket. units_seen bucket.items) c.units-item.is
          ∙ sym (get_or-map (λ bucket. units_seen bucket.items) c.args.buckets.now c.loop-units.units-index c.units-item.result []
          c.loop-units-test.true)))
          c.in_ok-fill_bucket.ensures,
    )
