use Rattle.std.proofs.Common.{◌+◌, ◌<◌, ◌∙◌, arith, refl}
use Rattle.bdb_need.proofs.Common.{values_seen, pairs_of, slice_seen, KeyedUnit, keyed_units}
use Rattle.bdb_need.proofs.KeyLemmas.{own_begun, own_end, own_next, run_some, unit_short}
use Rattle.bdb_need.proofs.TableLemmas.{key_new, key_open, keys_begun, keys_end, own_in_table, own_units}
use Rattle.bdb_need.proofs.table.all_pages.Goals as goal

pub loop-start-init : goal.loop-start-init
loop-start-init c = (
  keys_begun c.args.size c.args.bits c.page_room-room.result c.bucket_count-count.result (slice_seen c.args.pairs) c.in_ok-left.left.items
      c.page_room-room.ensures c.bucket_count-count.ensures.count (c.in_ok-left.ensures.items_if_clones_equal (λ y same. same)),
  own_begun (own_in_table c.args.size c.args.sorted) (slice_seen c.args.pairs) c.requires.short,
)

pub keyed_own_pages-requires-clause-some : goal.keyed_own_pages-requires-clause-some
keyed_own_pages-requires-clause-some c = run_some (pairs_of c.args.pairs) c.loop-start.start _ _ c.run_at-run.ensures

pub keyed_own_pages-requires-clause-key : goal.keyed_own_pages-requires-clause-key
keyed_own_pages-requires-clause-key c =
    (unit_short (own_in_table c.args.size c.args.sorted) (slice_seen c.args.pairs) c.loop-start.start _ _
    (KeyedUnit c.run_at-run.result.key.now (values_seen c.run_at-run.result.values)) c.loop-start.invariant.1 c.run_at-run.ensures).0

pub keyed_own_pages-requires-clause-short : goal.keyed_own_pages-requires-clause-short
keyed_own_pages-requires-clause-short c =
    (unit_short (own_in_table c.args.size c.args.sorted) (slice_seen c.args.pairs) c.loop-start.start _ _
    (KeyedUnit c.run_at-run.result.key.now (values_seen c.run_at-run.result.values)) c.loop-start.invariant.1 c.run_at-run.ensures).1

pub keyed_cost-cost-requires-clause-some : goal.keyed_cost-cost-requires-clause-some
keyed_cost-cost-requires-clause-some c = run_some (pairs_of c.args.pairs) c.loop-start.start _ _ c.run_at-run.ensures

pub loop-start-preserved-then-cost-index : goal.loop-start-preserved-then-cost-index
loop-start-preserved-then-cost-index c =
    let run = c.run_at-run.result in (
      key_open c.args.size c.args.bits c.loop-start.start run.end c.loop-start.pages _ c.keyed_cost-cost.result c.index.result.now
          c.index_mut.result.now c.bucket_among-b.result (slice_seen c.args.pairs) run.key.now (values_seen run.values) c.loop-start.left.items _
          c.loop-start.invariant.0 c.run_at-run.ensures c.bucket_among-b.ensures.bucket c.bucket_among-b.ensures.low
          c.keyed_cost-cost.ensures.cost c.index.ensures c.index_mut.ensures.value c.if-cost-index.true refl refl,
      own_next (own_in_table c.args.size c.args.sorted) (slice_seen c.args.pairs) c.loop-start.start run.end c.loop-start.own c.in_ok-own.field-0
          (KeyedUnit run.key.now (values_seen run.values)) c.loop-start.invariant.1 c.run_at-run.ensures c.in_ok-own.ensures.pages
          c.in_ok-own.ensures.few,
    )

pub loop-start-preserved : goal.loop-start-preserved
loop-start-preserved c =
    let run = c.run_at-run.result in (
      key_new c.args.size c.args.bits c.loop-start.start run.end c.loop-start.pages _ c.keyed_cost-cost.result c.index.result.now
          c.page_room-room.result c.bucket_among-b.result (slice_seen c.args.pairs) run.key.now (values_seen run.values) c.loop-start.left.items _
          c.loop-start.invariant.0 c.run_at-run.ensures c.bucket_among-b.ensures.bucket c.bucket_among-b.ensures.low
          c.keyed_cost-cost.ensures.cost c.page_room-room.ensures c.index.ensures c.if-cost-index.false refl refl,
      own_next (own_in_table c.args.size c.args.sorted) (slice_seen c.args.pairs) c.loop-start.start run.end c.loop-start.own c.in_ok-own.field-0
          (KeyedUnit run.key.now (values_seen run.values)) c.loop-start.invariant.1 c.run_at-run.ensures c.in_ok-own.ensures.pages
          c.in_ok-own.ensures.few,
    )

pub returns-clause-pages : goal.returns-clause-pages
returns-clause-pages c =
    let own = own_end (own_in_table c.args.size c.args.sorted) (slice_seen c.args.pairs) c.loop-start.start c.loop-start.own (omega arith)
    c.loop-start.invariant.1 in
    let pages = keys_end c.args.size c.args.bits c.loop-start.start c.loop-start.pages (slice_seen c.args.pairs) c.loop-start.left.items
    c.loop-start.invariant.0 (omega arith) in
    omega (arith, own, pages, own_units c.args.size c.args.sorted (keyed_units (pairs_of c.args.pairs)))
