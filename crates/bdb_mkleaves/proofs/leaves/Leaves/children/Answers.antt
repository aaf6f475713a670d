use Rattle.std.proofs.Common.{◌∷◌, [], length, get_or, arith, sym, ap, subst, Contains}
use Rattle.bdb_mkleaves.proofs.Common.{Contains-append_left, Contains-append_right, Contains-get_or, first_member}
use Rattle.bdb_mkleaves.proofs.ChildrenLemmas.{all_children, closed_more}
use Rattle.bdb_mkleaves.proofs.leaves.Leaves.children.Goals as goal

pub loop-leaf-init : goal.loop-leaf-init
loop-leaf-init c = λ all linked. c.new-children.ensures.items

pub child_of-requires : goal.child_of-requires
child_of-requires c = record {
  there = c.requires.linked.there _
      (Contains-append_left c.args.self.now.closed.items (c.args.self.now.last ∷ []) _
      (subst (λ xs. Contains xs (get_or c.deref-leaf-items.result.now c.loop-leaf.leaf-index 0)) c.deref-leaf-items.ensures.value
      (Contains-get_or c.deref-leaf-items.result.now c.loop-leaf.leaf-index 0 c.loop-leaf-test.true)));
}

pub loop-leaf-preserved : goal.loop-leaf-preserved
loop-leaf-preserved c =
    closed_more c.args.self.now c.args.pages.now c.args.counted c.loop-leaf.leaf-index _ c.child_of.result c.loop-leaf.children.items
    c.push.new.self.items
    (omega (arith, c.loop-leaf-test.true, ap length c.deref-leaf-items.ensures.value))
    (ap (λ xs. get_or xs c.loop-leaf.leaf-index 0)
    (sym c.deref-leaf-items.ensures.value)) c.child_of.ensures c.in_ok-push.ensures.items c.loop-leaf.invariant

pub child_of-requires-2 : goal.child_of-requires-2
child_of-requires-2 c = record {
  there = c.requires.linked.there c.args.self.now.last
      (Contains-append_right c.args.self.now.closed.items (c.args.self.now.last ∷ []) c.args.self.now.last (first_member c.args.self.now.last []));
}

pub returns : goal.returns
returns c =
    all_children c.args.self.now c.args.pages.now c.args.counted c.loop-leaf.leaf-index c.child_of-2.result c.loop-leaf.children.items
    c.push-2.new.self.items
    (omega (arith, c.loop-leaf-test.false, c.loop-leaf.auto.leaf-index-end, ap length c.deref-leaf-items.ensures.value)) c.child_of-2.ensures
    c.in_ok-push-2.ensures.items c.loop-leaf.invariant
