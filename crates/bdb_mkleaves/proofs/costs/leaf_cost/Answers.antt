use Rattle.std.proofs.Common.{arith, ◌+◌, ◌∙◌, ap}
use Rattle.bdb_mkleaves.proofs.Common.{size_bounds, values_seen, KeyedUnit, value_cost}
use Rattle.bdb_mkleaves.proofs.PushLemmas.{keyed_more, keyed_small, keyed_tree, keyed_whole, units_fit}
use Rattle.bdb_mkleaves.proofs.costs.leaf_cost.Goals as goal

pub loop-i-init : goal.loop-i-init
loop-i-init c = record {
  sum = omega (arith, c.value_cost-alone.ensures.cost);
  first = λ none. c.value_cost-alone.ensures.cost;
  low = λ many some. absurd (omega (arith, some));
}

pub overflow_add-cost-in-loop-i : goal.overflow_add-cost-in-loop-i
overflow_add-cost-in-loop-i c =
    let small = keyed_small c.args.size c.args.key.now (values_seen c.args.values) c.loop-i.i c.loop-i.cost c.requires c.loop-i.invariant (omega arith) in
    omega (arith, small, c.value_cost.ensures.few, (size_bounds c.args.size c.requires).1)

pub loop-i-preserved : goal.loop-i-preserved
loop-i-preserved c =
    keyed_more c.args.size c.page_room-most.result c.args.key.now (values_seen c.args.values) c.loop-i.i c.loop-i.cost c.value_cost.result c.len.result
    c.loop-i.invariant (omega arith) (c.value_cost.ensures.cost ∙ ap (value_cost c.args.size) c.at.ensures) c.page_room-most.ensures c.len.ensures
    c.else-len-gt1.either

pub returns-then-cost-most : goal.returns-then-cost-most
returns-then-cost-most c =
    let tree = keyed_tree c.args.size c.args.key.now (values_seen c.args.values) c.loop-i.i c.loop-i.cost c.value_cost.result c.loop-i.invariant
    (omega arith) (c.value_cost.ensures.cost ∙ ap (value_cost c.args.size) c.at.ensures) (omega (arith, c.page_room-most.ensures)) (omega (arith, c.len.ensures)) in
    record {
      cost = ap (λ n. n + 16) c.value_cost-alone.ensures.cost ∙ tree.0;
      tree = tree.1;
      fits = omega (arith, c.value_cost-alone.ensures.few, (size_bounds c.args.size c.requires).0);
    }

pub returns : goal.returns
returns c =
    let values = values_seen c.args.values in
    let whole = keyed_whole c.args.size c.args.key.now values c.loop-i.i c.loop-i.cost c.loop-i.invariant (omega arith) in
    record {
      cost = whole.0;
      tree = whole.1;
      fits = let fits = units_fit c.args.size (KeyedUnit c.args.key.now values) c.requires in omega (arith, fits, whole.0);
    }
