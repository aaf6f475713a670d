use Rattle.std.proofs.Common.{false, ◌+◌, ◌∙◌, arith, drop, refl, subst}
use Rattle.bdb_need.proofs.Common.{values_seen, EntryUnit, SortedData, data_units}
use Rattle.bdb_need.proofs.TreeLemmas.{KeyedTo, data_here, data_past, keyed_end, keyed_next}
use Rattle.bdb_need.proofs.data.sorted_pages.Goals as goal

pub loop-i-preserved : goal.loop-i-preserved
loop-i-preserved c =
    let values = values_seen c.args.values in
    let i = c.loop-i.i in
    let value = c.at-value.result.now in
    let all = data_units values in
    let put = c.in_ok-put.ensures in (
      keyed_next c.args.size c.loop-i.leaves.left c.put.new.self.left c.loop-i.leaves.room c.record_cost.result c.key_item_cost.result all
          (data_units (drop (i + 1) values)) (EntryUnit value false) c.loop-i.leaves.items.items c.put.new.self.items.items
          (subst (λ us. KeyedTo c.args.size all us c.loop-i.leaves.left c.loop-i.leaves.items.items)
          (data_here values i value (omega arith) c.at-value.ensures) c.loop-i.invariant.0)
          c.loop-i.invariant.1 c.record_cost.ensures.cost c.key_item_cost.ensures.cost c.key_item_cost.ensures.fits put.left put.same
          put.begun put.more,
      put.room ∙ c.loop-i.invariant.1,
      (let few = put.few in omega (arith, few, c.loop-i.invariant.2)),
    )

pub returns-clause-pages : goal.returns-clause-pages
returns-clause-pages c =
    let all = data_units (values_seen c.args.values) in
    keyed_end SortedData c.args.size c.tree_pages.result c.loop-i.leaves.left c.loop-i.leaves.room all c.loop-i.leaves.items.items refl
    (subst (λ us. KeyedTo c.args.size all us c.loop-i.leaves.left c.loop-i.leaves.items.items)
    (data_past (values_seen c.args.values) c.loop-i.i (omega arith)) c.loop-i.invariant.0)
    c.loop-i.invariant.1 c.tree_pages.ensures.pages
