use Rattle.std.proofs.Common.{◌∙◌, ◌+◌, ◌^◌, ◌<◌, arith, sym}
use Rattle.std.specs.List.{prefix_len}
use Rattle.bdb_btree.specs.of_format.Terms.{file_of}
use Rattle.bdb_range.specs.Spans.{goes_on}
use Rattle.bdb_range.proofs.SpanLemmas.{count_fits, first_fits, rest_fits, walk_more}
use Rattle.bdb_range.proofs.spanning.walked.Goals as goal

-- The leaf is the first of those that are left.
pub goes_on-requires : goal.goes_on-requires
goes_on-requires g c =
    first_fits (file_of c.args.forest.now) c.in-Some.leaf c.number.result c.loop-leaf.leaf-iterator c.next.new.self c.in-Some.ensures.steps c.number.ensures
    c.loop-leaf.invariant.leaves

-- No more leaves are counted than there are.
pub overflow_add-count : goal.overflow_add-count
overflow_add-count g c =
    let few : c.loop-leaf.count + 1 < 2 ^ 32 =
    count_fits (goes_on (file_of c.args.forest.now) c.args.to.now) c.loop-leaf.count c.in-Some.leaf c.number.result c.loop-leaf.leaf-iterator c.next.new.self
    c.args.others
    c.in-Some.ensures.steps c.number.ensures (sym c.goes_on.ensures ∙ c.if-not-goes_on.false) c.loop-leaf.invariant.same c.requires.few in
    omega arith

pub loop-leaf-preserved : goal.loop-leaf-preserved
loop-leaf-preserved g c = record {
  same = walk_more (goes_on (file_of c.args.forest.now) c.args.to.now) c.loop-leaf.count
      (prefix_len (goes_on (file_of c.args.forest.now) c.args.to.now) c.args.others) c.in-Some.leaf c.number.result c.loop-leaf.leaf-iterator c.next.new.self
      c.in-Some.ensures.steps c.number.ensures (sym c.goes_on.ensures ∙ c.if-not-goes_on.false) c.loop-leaf.invariant.same;
  leaves = rest_fits (file_of c.args.forest.now) c.in-Some.leaf c.loop-leaf.leaf-iterator c.next.new.self c.in-Some.ensures.steps c.loop-leaf.invariant.leaves;
  steps = omega arith;
}
