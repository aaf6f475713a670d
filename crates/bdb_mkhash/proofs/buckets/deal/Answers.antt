use Rattle.std.proofs.Common.{List, ℕ, [], ◌++◌, ◌∷◌, ◌∙◌, ap, arith, drop, get_or, map, set, subst, sym}
use Rattle.bdb_mkhash.proofs.Common.{length-map, map-append, values_seen, pairs_of, Keyed, unit_seen, units_seen, table_units}
use Rattle.bdb_mkhash.proofs.BucketLemmas.{AreDealt, dealt_length, none_dealt, one_dealt, pushed_seen, run_unit}
use Rattle.bdb_mkhash.proofs.buckets.deal.Goals as goal

pub index_mut-requires : goal.index_mut-requires
index_mut-requires c =
    omega (
      arith,
      dealt_length c.args.bits _ _ _ c.loop-start.invariant.1,
      length-map c.loop-start.buckets.items
          (λ bucket. units_seen bucket.items),
      c.bucket_among-b.ensures.low,
    )

pub loop-start-init : goal.loop-start-init
loop-start-init c = (omega arith, none_dealt c.args.bits (table_units (pairs_of c.args.list)) _ c.in_ok-buckets.ensures)

pub loop-start-preserved : goal.loop-start-preserved
loop-start-preserved c =
    let unit = unit_seen c.unit_of-unit.result in
    let seen = map (λ bucket. units_seen bucket.items) c.loop-start.buckets.items in
    let many = dealt_length c.args.bits _ _ _ c.loop-start.invariant.1 in
    let long = length-map c.loop-start.buckets.items (λ bucket. units_seen bucket.items) in
    let low = c.bucket_among-b.ensures.low in
    let after : List Keyed = table_units (drop c.run_at-run.result.end (pairs_of c.args.list)) in
    let keyed : List ℕ → List (List ℕ) → Keyed = λ key values. record { key = key; values = values } in
    let same = ap (λ key. keyed key (values_seen c.run_at-run.result.values)) (sym c.unit_of-unit.ensures.key)
    ∙ ap (keyed c.unit_of-unit.result.key.now) (sym c.unit_of-unit.ensures.values) in
    let run = run_unit (pairs_of c.args.list) c.loop-start.start c.run_at-run.result.end _ _ c.run_at-run.ensures ∙ ap (λ u. u ∷ after) same in
    let pushed = pushed_seen (λ bucket. units_seen bucket.items) c.loop-start.buckets.items c.bucket_among-b.result c.index_mut.result.now
    c.push.new.self unit
    (omega (arith, many, long, low)) c.index_mut.ensures.value
    (ap (map unit_seen) c.in_ok-push.ensures.items ∙ map-append unit_seen c.index_mut.result.now.items (c.unit_of-unit.result ∷ [])) in (
      c.run_at-run.ensures.within,
      one_dealt c.args.bits (table_units (pairs_of c.args.list)) after unit seen _
          (subst (λ left. AreDealt c.args.bits (table_units (pairs_of c.args.list)) left seen) run c.loop-start.invariant.1)
          (omega (arith, low, c.bucket_among-b.ensures.bucket))
          (pushed ∙ ap (λ b. set seen b (get_or seen b [] ++ (unit ∷ []))) c.bucket_among-b.ensures.bucket),
    )
