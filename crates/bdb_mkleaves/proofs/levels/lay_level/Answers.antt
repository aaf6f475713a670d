use Rattle.std.proofs.Common.{List, [], ℕ, suc, ◌+◌, ◌≡◌, take, get_or, arith, sym, subst, ap, ◌∙◌, IsTrue}
use Rattle.std.proofs.Math.Seq.{take-suc}
use Rattle.bdb_mkleaves.proofs.Common.{take_all, is_page_size, Node, no_node, AreChildren, IsLevelLaid, Child}
use Rattle.bdb_mkleaves.proofs.LevelLemmas.{as_many, child_at, laid_none}
use Rattle.bdb_mkleaves.proofs.levels.lay_level.Goals as goal

pub loop-child-init : goal.loop-child-init
loop-child-init c = record {
  legal = c.requires.legal;
  laid = λ nodes are.
      subst (λ (l : List Child). IsLevelLaid c.args.inner c.args.level c.args.pages.now c.args.pages.now l []) (sym c.new-above.ensures.items)
      (laid_none c.args.inner c.args.level c.args.pages.now c.requires.whole);
}

pub push_child-requires-clause-can : goal.push_child-requires-clause-can
push_child-requires-clause-can c =
    let nodes : List Node = c.requires.children.0 in
    record {
      old = c.args.pages.now;
      nodes = take c.loop-child.child-index nodes;
      laid = c.loop-child.invariant.laid nodes c.requires.children.1;
      key = (get_or nodes c.loop-child.child-index no_node).key;
      has = (child_at c.args.inner c.args.pages.now c.args.below.now nodes c.loop-child.child-index c.requires.children.1 c.loop-child-test.true).key;
    }

pub loop-child-preserved : goal.loop-child-preserved
loop-child-preserved c =
    let i : ℕ = c.loop-child.child-index in
    let pushed = λ (nodes : List Node) (are : AreChildren c.args.inner c.args.pages.now c.args.below.now nodes).
    c.in_ok-push_child.ensures c.args.pages.now (take i nodes) (get_or nodes i no_node) (c.loop-child.invariant.laid nodes are)
    (child_at c.args.inner c.args.pages.now c.args.below.now nodes i are c.loop-child-test.true) in
    record {
      legal = subst (λ size. IsTrue (is_page_size size)) (sym (pushed c.requires.children.0 c.requires.children.1).laid.size) c.requires.legal;
      laid = λ nodes are.
          subst (λ (l : List Node). IsLevelLaid c.args.inner c.args.level c.args.pages.now c.push_child.new.pages c.push_child.new.above.items l)
          (sym (ap (λ k. take k nodes) (let e : i + 1 ≡ suc i = omega arith in e)
          ∙ take-suc nodes i no_node (omega (arith, as_many c.args.inner c.args.pages.now c.args.below.now nodes are, c.loop-child-test.true))))
          (pushed nodes are);
    }

pub returns : goal.returns
returns c = λ nodes are.
    subst (λ (l : List Node). IsLevelLaid c.args.inner c.args.level c.args.pages.now c.loop-child.pages c.loop-child.above.items l)
    (take_all c.loop-child.child-index nodes (omega (
      arith,
      as_many c.args.inner c.args.pages.now c.args.below.now nodes are,
      c.loop-child-test.false,
    )))
    (c.loop-child.invariant.laid nodes are)
