use Rattle.std.proofs.Common.{arith}
use Rattle.bdb_mkhash.proofs.FillLemmas.{bucket_added}
use Rattle.bdb_mkhash.proofs.fill.add_buckets.Goals as goal

pub loop-bucket-preserved : goal.loop-bucket-preserved
loop-bucket-preserved c =
    let before = c.loop-bucket.invariant in
    let after = bucket_added c.args.pages.now c.loop-bucket.pages c.add_page.new.pages c.loop-bucket._bucket c.in_ok-add_page.field-0 before.0
    before.1 before.2
    c.in_ok-add_page.ensures.number c.in_ok-add_page.ensures.pages c.in_ok-add_page.ensures.holds c.in_ok-add_page.ensures.few in
    (after.0, after.1, after.2, λ some. omega (arith, after.1, before.1, c.in_ok-add_page.ensures.few))
