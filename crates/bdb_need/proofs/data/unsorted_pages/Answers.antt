use Rattle.std.proofs.Common.{false, [], ◌∷◌, ◌+◌, ap, arith, drop, subst}
use Rattle.bdb_need.proofs.Common.{values_seen, EntryUnit, data_units}
use Rattle.bdb_need.proofs.TreeLemmas.{CountedTo, counted_end, counted_next, data_here, data_past}
use Rattle.bdb_need.proofs.data.unsorted_pages.Goals as goal

pub loop-i-preserved : goal.loop-i-preserved
loop-i-preserved c =
    let values = values_seen c.args.values in
    let i = c.loop-i.i in
    let value = c.at.result.now in
    let rest = data_units (drop (i + 1) values) in (
      counted_next c.args.size (data_units values) (EntryUnit value false ∷ []) rest _ c.loop-i.open c.put.new.self
          (subst (λ us. CountedTo c.args.size (data_units values) us c.loop-i.open) (data_here values i value (omega arith) c.at.ensures)
          c.loop-i.invariant.0)
          c.put.ensures (ap (λ n. n ∷ []) c.record_cost.ensures.cost),
      (let few = c.put.ensures.few in omega (arith, few, c.loop-i.invariant.1)),
    )

pub returns-clause-pages : goal.returns-clause-pages
returns-clause-pages c =
    counted_end c.args.size c.tree_pages.result (data_units (values_seen c.args.values)) c.loop-i.open
    (subst (λ us. CountedTo c.args.size (data_units (values_seen c.args.values)) us c.loop-i.open)
    (data_past (values_seen c.args.values) c.loop-i.i (omega arith)) c.loop-i.invariant.0)
    c.tree_pages.ensures.pages
