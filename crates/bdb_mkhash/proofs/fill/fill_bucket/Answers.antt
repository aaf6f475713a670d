use Rattle.std.proofs.Common.{arith, subst}
use Rattle.bdb_mkhash.proofs.Common.{IsPageFilled, units_seen}
use Rattle.bdb_mkhash.proofs.FillLemmas.{seen_long, seen_rest, short_rest}
use Rattle.bdb_mkhash.proofs.OpenLemmas.{bucket_begun, bucket_done, bucket_more, some_taken}
use Rattle.bdb_mkhash.proofs.fill.fill_bucket.Goals as goal

pub loop-done-init : goal.loop-done-init
loop-done-init c =
    bucket_begun c.args.first c.args.pages.now c.fill_page.new.pages c.args.sorted (units_seen c.args.units.now) c.in_ok-done.done c.requires.there
    c.requires.empty c.in_ok-done.ensures

pub fill_page-requires-in-loop-done-clause-short : goal.fill_page-requires-in-loop-done-clause-short
fill_page-requires-in-loop-done-clause-short c = short_rest c.args.units.now c.loop-done.done c.requires.short

pub loop-done-preserved : goal.loop-done-preserved
loop-done-preserved c =
    bucket_more c.args.first c.args.pages.now c.loop-done.pages c.follow.new.pages c.fill_page-in-loop-done.new.pages c.args.sorted
    (units_seen c.args.units.now) c.loop-done.page c.loop-done.done c.in_ok-page.page c.in_ok-done-2.field-0 c.requires.there c.requires.legal
    c.loop-done.invariant (omega (arith, seen_long c.args.units.now, c.loop-done-test.true)) c.in_ok-page.ensures
    (subst (λ us. IsPageFilled c.in_ok-page.page c.follow.new.pages c.fill_page-in-loop-done.new.pages c.args.sorted us c.in_ok-done-2.field-0)
    (seen_rest c.args.units.now c.loop-done.done) c.in_ok-done-2.ensures)

pub loop-done-smaller : goal.loop-done-smaller
loop-done-smaller c =
    let some = some_taken c.args.first c.args.pages.now c.loop-done.pages c.follow.new.pages c.fill_page-in-loop-done.new.pages c.args.sorted
    (units_seen c.args.units.now) c.loop-done.page c.loop-done.done c.in_ok-page.page c.in_ok-done-2.field-0 c.requires.there c.requires.legal
    c.loop-done.invariant (omega (arith, seen_long c.args.units.now, c.loop-done-test.true)) c.in_ok-page.ensures
    (subst (λ us. IsPageFilled c.in_ok-page.page c.follow.new.pages c.fill_page-in-loop-done.new.pages c.args.sorted us c.in_ok-done-2.field-0)
    (seen_rest c.args.units.now c.loop-done.done) c.in_ok-done-2.ensures) in
    omega (arith, some, c.loop-done-test.true)

pub returns : goal.returns
returns c =
    bucket_done c.args.first c.args.pages.now c.loop-done.pages c.args.sorted (units_seen c.args.units.now) c.loop-done.page c.loop-done.done
    c.requires.there c.loop-done.invariant
    (let few = c.loop-done.invariant.few in omega (arith, few, seen_long c.args.units.now, c.loop-done-test.false))
