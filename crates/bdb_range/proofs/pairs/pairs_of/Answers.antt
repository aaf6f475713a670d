use Rattle.std.proofs.Common.{◌∙◌, arith}
use Rattle.bdb_range.proofs.OpenLemmas.{first_fits, root_low, walk_fits, walk_is, walk_lists, walk_open}
use Rattle.bdb_range.proofs.pairs.pairs_of.Goals as goal

pub leaves-requires-clause-fits : goal.leaves-requires-clause-fits
leaves-requires-clause-fits c =
    rw (c.at.ensures, c.number.ensures)
    (first_fits c.args.linked.now c.args.meta.now c.args.from.now c.args.to.now c.args.span.now.first c.args.span.now.leaves
    c.head.ensures.forest c.requires.meta c.requires.covers)

-- The walk is that of the span's leaves and those behind them.
pub invariant_of-pairs : goal.invariant_of-pairs
invariant_of-pairs c =
    let walk =
    walk_is c.args.linked.now c.args.meta.now c.args.from.now c.args.to.now c.args.span.now.first c.args.span.now.leaves c.at.result c.leaves.result
    c.head.ensures.forest c.requires.meta c.requires.covers (c.at.ensures ∙ c.number.ensures) c.leaves.ensures.tree in
    rw c.forest.ensures
    (walk_fits c.args.linked.now c.args.meta.now c.args.from.now c.args.to.now c.args.span.now.first c.args.span.now.leaves c.leaves.result
    c.head.ensures.forest c.requires.meta c.requires.covers walk)

pub invariant_of-result : goal.invariant_of-result
invariant_of-result c =
    let walk =
    walk_is c.args.linked.now c.args.meta.now c.args.from.now c.args.to.now c.args.span.now.first c.args.span.now.leaves c.at.result c.leaves.result
    c.head.ensures.forest c.requires.meta c.requires.covers (c.at.ensures ∙ c.number.ensures) c.leaves.ensures.tree in
    rw (c.forest-2.ensures, c.forest.ensures)
    (walk_open c.args.linked.now c.args.meta.now c.args.from.now c.args.to.now c.args.span.now.first c.args.span.now.leaves c.leaves.result
    c.head.ensures.forest c.requires.meta c.requires.stage c.requires.covers walk)

pub returns : goal.returns
returns c =
    let walk =
    walk_is c.args.linked.now c.args.meta.now c.args.from.now c.args.to.now c.args.span.now.first c.args.span.now.leaves c.at.result c.leaves.result
    c.head.ensures.forest c.requires.meta c.requires.covers (c.at.ensures ∙ c.number.ensures) c.leaves.ensures.tree in
    rw (c.forest-2.ensures, c.forest.ensures)
    (walk_lists c.args.linked.now c.args.meta.now c.args.from.now c.args.to.now c.args.span.now.first c.args.span.now.leaves c.leaves.result
    c.head.ensures.forest c.requires.meta c.requires.covers walk)

pub prove-unreachable-requires : goal.prove-unreachable-requires
prove-unreachable-requires c =
    omega (arith, root_low c.args.linked.now c.head.result c.args.meta.now c.head.ensures.head c.head.ensures.forest c.requires.meta)
