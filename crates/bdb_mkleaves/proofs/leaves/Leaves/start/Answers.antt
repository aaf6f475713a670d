use Rattle.std.proofs.Common.{[], inl, refl, sym, subst}
use Rattle.bdb_mkleaves.specs.Leaves.{KeepsOthers}
use Rattle.bdb_mkleaves.proofs.LeavesLemmas.{begun_kept}
use Rattle.bdb_mkleaves.proofs.RestLemmas.{leaf_begun}
use Rattle.bdb_mkleaves.proofs.leaves.Leaves.start.Goals as goal

pub returns-clause-filled : goal.returns-clause-filled
returns-clause-filled c =
    leaf_begun _ c.add_leaf.new.pages _ c.requires c.new.ensures.items c.in_ok-last.ensures.number
    (begun_kept c.args.leaf_type c.args.pages.now c.add_leaf.new.pages 0 c.in_ok-last.ensures.pages).1 c.in_ok-last.ensures.holds

pub returns-clause-kept : goal.returns-clause-kept
returns-clause-kept c =
    subst (λ n. KeepsOthers n c.args.pages.now c.add_leaf.new.pages) (sym c.in_ok-last.ensures.number)
    (begun_kept c.args.leaf_type c.args.pages.now c.add_leaf.new.pages 0 c.in_ok-last.ensures.pages).0

pub returns-clause-count : goal.returns-clause-count
returns-clause-count c = (begun_kept c.args.leaf_type c.args.pages.now c.add_leaf.new.pages 0 c.in_ok-last.ensures.pages).1

pub returns-clause-some : goal.returns-clause-some
returns-clause-some c = record {
  before = _;
  closed = [];
  units = [];
  filled = returns-clause-filled c;
  some = inl refl;
}
