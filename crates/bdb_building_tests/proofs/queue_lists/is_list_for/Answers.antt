use Rattle.std.proofs.Common.{List, ℕ, ◌-◌, ◌<◌, ◌≡◌, length, ap, arith, sym, ◌∙◌, ◌+◌, subst}
use Rattle.std.proofs.lemmas.Bool.{leb-true}
use Rattle.std.proofs.lemmas.List.{length-map}
use Rattle.bdb_need.specs.of_text_format.Terms.{pair_seen, pairs_of, slice_seen, unlined}
use Rattle.bdb_need.proofs.of_mkqueue.LastLemmas.{key_here, value_here}
use Rattle.bdb_building_tests.specs.Queues.{MayStandFrom}
use Rattle.bdb_building_tests.proofs.QueueLemmas.{all_looked_at, none_looked_at, one_looked_at}
use Rattle.bdb_building_tests.proofs.queue_lists.is_list_for.Goals as goal

pub loop-i-init : goal.loop-i-init
loop-i-init c =
    none_looked_at c.args.settings.now (pairs_of c.args.list) c.len-i.result _ (c.len-i.ensures ∙ sym (length-map (slice_seen c.args.list) unlined))
    (omega arith)

pub loop-i-preserved : goal.loop-i-preserved
loop-i-preserved c =
    let list = pairs_of c.args.list in
    let seen = slice_seen c.args.list in
    let settings = c.args.settings.now in
    let low : c.loop-i.i - 1 < length list = omega (arith, c.loop-i-test.true, c.loop-i.invariant.there) in
    let place : c.loop-i.i ≡ c.loop-i.i - 1 + 1 = omega (arith, c.loop-i-test.true) in
    one_looked_at settings list (c.loop-i.i - 1) c.number_of-number.result c.loop-i.beyond low
    (key_here seen (c.loop-i.i - 1) c.number_of-number.result (pair_seen c.at-pair.result) c.at-pair.ensures c.number_of-number.ensures)
    (omega (arith, c.if-number-beyond.false))
    (sym (ap (λ (value : List ℕ). length value) (value_here seen (c.loop-i.i - 1) (pair_seen c.at-pair.result) c.at-pair.ensures))
    ∙ (c.if-pair-from.false ∙ c.from.ensures))
    (subst (λ i. MayStandFrom settings list i c.loop-i.beyond) place c.loop-i.invariant)

pub returns : goal.returns
returns c =
    let none : c.loop-i.i ≡ 0 = omega (arith, c.loop-i-test.false) in
    λ some. all_looked_at c.args.settings.now (pairs_of c.args.list) c.loop-i.beyond (leb-true 1 c.loop-i.beyond some)
    (subst (λ i. MayStandFrom c.args.settings.now (pairs_of c.args.list) i c.loop-i.beyond) none c.loop-i.invariant)
