use Rattle.std.proofs.Common.{◌≡◌, ◌≤◌, length, arith}
use Rattle.std.specs.List.{prefix_len}
use Rattle.bdb_btree.specs.of_format.Terms.{file_of}
use Rattle.bdb_range.specs.Spans.{goes_on}
use Rattle.bdb_range.proofs.AnswerLemmas.{AreBehind, IsSpan, are_behind, span_is}
use Rattle.bdb_range.proofs.SpanLemmas.{walk_inside}
use Rattle.bdb_range.proofs.spanning.span.Goals as goal

-- The leaves that are walked are those behind the one to which the descent leads.
pub walked-count-requires-clause-leaves : goal.walked-count-requires-clause-leaves
walked-count-requires-clause-leaves g c =
    let behind : AreBehind c.args.linked.now c.args.meta.now c.args.from.now c.leaf_for-first.result c.next.new.self =
    are_behind c.args.linked.now c.args.meta.now c.args.from.now c.leaf_for-first.result c.number.result c.at.result c.leaves-others.result
    c.next.new.self c.next.result c.leaf_for-first.ensures.forest c.requires.meta c.requires.keys c.requires.contents c.leaf_for-first.ensures.leaf
    c.number.ensures c.at.ensures c.leaves-others.ensures.tree c.next.ensures.steps in
    rw (c.forest-forest.ensures) behind.fit

pub walked-count-requires-clause-few : goal.walked-count-requires-clause-few
walked-count-requires-clause-few g c =
    let behind : AreBehind c.args.linked.now c.args.meta.now c.args.from.now c.leaf_for-first.result c.next.new.self =
    are_behind c.args.linked.now c.args.meta.now c.args.from.now c.leaf_for-first.result c.number.result c.at.result c.leaves-others.result
    c.next.new.self c.next.result c.leaf_for-first.ensures.forest c.requires.meta c.requires.keys c.requires.contents c.leaf_for-first.ensures.leaf
    c.number.ensures c.at.ensures c.leaves-others.ensures.tree c.next.ensures.steps in
    omega (arith, behind.few)

pub overflow_add-result : goal.overflow_add-result
overflow_add-result g c =
    let behind : AreBehind c.args.linked.now c.args.meta.now c.args.from.now c.leaf_for-first.result c.next.new.self =
    are_behind c.args.linked.now c.args.meta.now c.args.from.now c.leaf_for-first.result c.number.result c.at.result c.leaves-others.result
    c.next.new.self c.next.result c.leaf_for-first.ensures.forest c.requires.meta c.requires.keys c.requires.contents c.leaf_for-first.ensures.leaf
    c.number.ensures c.at.ensures c.leaves-others.ensures.tree c.next.ensures.steps in
    let inside : prefix_len (goes_on (file_of c.forest-forest.result) c.args.to.now) c.next.new.self ≤ length c.next.new.self =
    walk_inside (goes_on (file_of c.forest-forest.result) c.args.to.now) c.next.new.self in
    let count : c.walked-count.result ≡ prefix_len (goes_on (file_of c.forest-forest.result) c.args.to.now) c.next.new.self = c.walked-count.ensures.count in
    omega (arith, behind.few)

pub returns-clause-covers : goal.returns-clause-covers
returns-clause-covers g c =
    let behind : AreBehind c.args.linked.now c.args.meta.now c.args.from.now c.leaf_for-first.result c.next.new.self =
    are_behind c.args.linked.now c.args.meta.now c.args.from.now c.leaf_for-first.result c.number.result c.at.result c.leaves-others.result
    c.next.new.self c.next.result c.leaf_for-first.ensures.forest c.requires.meta c.requires.keys c.requires.contents c.leaf_for-first.ensures.leaf
    c.number.ensures c.at.ensures c.leaves-others.ensures.tree c.next.ensures.steps in
    let is : IsSpan c.args.linked.now c.args.meta.now c.args.from.now c.args.to.now c.leaf_for-first.result c.walked-count.result =
    span_is c.args.linked.now c.forest-forest.result c.args.meta.now c.args.from.now c.args.to.now c.leaf_for-first.result c.walked-count.result c.next.new.self
    c.leaf_for-first.ensures.forest c.requires.meta c.requires.keys c.requires.contents behind c.forest-forest.ensures c.walked-count.ensures.count in
    is.covers

pub returns-clause-few : goal.returns-clause-few
returns-clause-few g c =
    let behind : AreBehind c.args.linked.now c.args.meta.now c.args.from.now c.leaf_for-first.result c.next.new.self =
    are_behind c.args.linked.now c.args.meta.now c.args.from.now c.leaf_for-first.result c.number.result c.at.result c.leaves-others.result
    c.next.new.self c.next.result c.leaf_for-first.ensures.forest c.requires.meta c.requires.keys c.requires.contents c.leaf_for-first.ensures.leaf
    c.number.ensures c.at.ensures c.leaves-others.ensures.tree c.next.ensures.steps in
    let is : IsSpan c.args.linked.now c.args.meta.now c.args.from.now c.args.to.now c.leaf_for-first.result c.walked-count.result =
    span_is c.args.linked.now c.forest-forest.result c.args.meta.now c.args.from.now c.args.to.now c.leaf_for-first.result c.walked-count.result c.next.new.self
    c.leaf_for-first.ensures.forest c.requires.meta c.requires.keys c.requires.contents behind c.forest-forest.ensures c.walked-count.ensures.count in
    omega (arith, is.few)

pub returns-clause-cost : goal.returns-clause-cost
returns-clause-cost g c =
    let behind : AreBehind c.args.linked.now c.args.meta.now c.args.from.now c.leaf_for-first.result c.next.new.self =
    are_behind c.args.linked.now c.args.meta.now c.args.from.now c.leaf_for-first.result c.number.result c.at.result c.leaves-others.result
    c.next.new.self c.next.result c.leaf_for-first.ensures.forest c.requires.meta c.requires.keys c.requires.contents c.leaf_for-first.ensures.leaf
    c.number.ensures c.at.ensures c.leaves-others.ensures.tree c.next.ensures.steps in
    let is : IsSpan c.args.linked.now c.args.meta.now c.args.from.now c.args.to.now c.leaf_for-first.result c.walked-count.result =
    span_is c.args.linked.now c.forest-forest.result c.args.meta.now c.args.from.now c.args.to.now c.leaf_for-first.result c.walked-count.result c.next.new.self
    c.leaf_for-first.ensures.forest c.requires.meta c.requires.keys c.requires.contents behind c.forest-forest.ensures c.walked-count.ensures.count in
    omega (arith, is.few, c.walked-count.ensures.cost, c.leaf_for-first.ensures.cost, c.tick.ensures)
