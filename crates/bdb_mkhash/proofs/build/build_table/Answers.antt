use Rattle.std.proofs.Common.{◌∙◌, ap, arith, length, map, subst, sym, ◌+◌, ◌^◌, ◌≡◌, All}
use Rattle.bdb_mkhash.proofs.Common.{length-map, length-map-range_with_len, pairs_of, dealt, table_meta, table_bits, table_units, AreEmptyPages, AreFilled, IsShortUnit, units_seen}
use Rattle.bdb_mkhash.proofs.BuildLemmas.{all_seen, all_short, buckets_short, keys_are, table_built}
use Rattle.bdb_mkhash.proofs.BucketLemmas.{two_at_least}
use Rattle.bdb_mkhash.proofs.build.build_table.Goals as goal

pub table_bits-requires-clause-keys : goal.table_bits-requires-clause-keys
table_bits-requires-clause-keys c = keys_are c.args.settings.now (pairs_of c.args.list) c.requires.list

pub deal-requires-clause-keys : goal.deal-requires-clause-keys
deal-requires-clause-keys c = keys_are c.args.settings.now (pairs_of c.args.list) c.requires.list

pub fill_buckets-requires-clause-empty : goal.fill_buckets-requires-clause-empty
fill_buckets-requires-clause-empty c =
    let units = table_units (pairs_of c.args.list) in
    let are = ap (map (λ bucket. units_seen bucket.items)) c.as_slice.ensures.value ∙ c.in_ok-buckets.ensures in
    let many : length c.as_slice.result.now ≡ c.bucket_count.result =
    sym (length-map c.as_slice.result.now (λ bucket. units_seen bucket.items))
    ∙ (ap length are ∙ (length-map-range_with_len (dealt c.in_ok-bits.bits units) 0 (2 ^ c.in_ok-bits.bits) ∙ sym c.bucket_count.ensures.count)) in
    subst (λ n. AreEmptyPages c.count-first.result n c.add_buckets.new.pages) (sym many)
    (subst (λ p. AreEmptyPages p c.bucket_count.result c.add_buckets.new.pages) (sym c.count-first.ensures.count) c.in_ok-add_buckets.ensures.empty)

pub fill_buckets-requires-clause-short : goal.fill_buckets-requires-clause-short
fill_buckets-requires-clause-short c =
    let units = table_units (pairs_of c.args.list) in
    let are = ap (map (λ bucket. units_seen bucket.items)) c.as_slice.ensures.value ∙ c.in_ok-buckets.ensures in
    all_seen (All IsShortUnit) (λ bucket. units_seen bucket.items) c.as_slice.result.now
    (subst (All (All IsShortUnit)) (sym are)
    (buckets_short c.in_ok-bits.bits units (all_short c.args.settings.now (pairs_of c.args.list) c.requires.list)))

pub fill_buckets-requires-clause-few : goal.fill_buckets-requires-clause-few
fill_buckets-requires-clause-few c =
    let units = table_units (pairs_of c.args.list) in
    let are = ap (map (λ bucket. units_seen bucket.items)) c.as_slice.ensures.value ∙ c.in_ok-buckets.ensures in
    let many : length c.as_slice.result.now ≡ c.bucket_count.result =
    sym (length-map c.as_slice.result.now (λ bucket. units_seen bucket.items))
    ∙ (ap length are ∙ (length-map-range_with_len (dealt c.in_ok-bits.bits units) 0 (2 ^ c.in_ok-bits.bits) ∙ sym c.bucket_count.ensures.count)) in
    let two = two_at_least c.in_ok-bits.bits c.in_ok-bits.ensures.some in
    let few = c.in_ok-add_buckets.ensures.few (omega (arith, two, c.bucket_count.ensures.count)) in
    omega (arith, many, few, c.in_ok-add_buckets.ensures.count, c.count-first.ensures.count)

pub returns : goal.returns
returns c =
    let units = table_units (pairs_of c.args.list) in
    let are = ap (map (λ bucket. units_seen bucket.items)) c.as_slice.ensures.value ∙ c.in_ok-buckets.ensures in
    let bits = c.in_ok-bits.ensures.bits ∙ ap (λ s. table_bits s units) c.size.ensures.size in
    table_built c.args.settings.now c.args.pages.now c.add_buckets.new.pages c.fill_buckets.new.pages (pairs_of c.args.list) c.in_ok-bits.bits
    (map (λ bucket. units_seen bucket.items) c.as_slice.result.now) c.table_meta.result c.requires.list c.requires.some bits c.in_ok-bits.ensures.some
    (omega arith) are c.in_ok-add_buckets.ensures.kept
    (c.in_ok-add_buckets.ensures.count ∙ ap (λ n. length c.args.pages.now.pages + n) c.bucket_count.ensures.count)
    (subst (λ p. AreFilled p c.add_buckets.new.pages c.fill_buckets.new.pages c.args.settings.now.sorted
    (map (λ bucket. units_seen bucket.items) c.as_slice.result.now))
    c.count-first.ensures.count c.in_ok-fill_buckets.ensures)
    (c.table_meta.ensures ∙ ap (λ p. table_meta c.args.settings.now p c.in_ok-bits.bits) c.count-first.ensures.count)
