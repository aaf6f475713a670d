use Rattle.std.proofs.Common.{◌∙◌, ap, arith, subst, sym}
use Rattle.bdb_ranks.specs.of_format.Terms.{file_of}
use Rattle.bdb_btree.specs.Bounds.{DontFall, ends_of}
use Rattle.bdb_ranks.specs.of_overflow.Held.{value_held}
use Rattle.bdb_btree.proofs.EndLemmas.{leaf_ends, no_ends_there}
use Rattle.bdb_btree.proofs.ItemLemmas.{leaf_tree}
use Rattle.bdb_btree.proofs.WalkLemmas.{no_pairs}
use Rattle.bdb_btree.proofs.ends.ordered_ends.Goals as goal

pub returns-in_default : goal.returns-in_default
returns-in_default c = record {
  ends =
      c.new.ensures.none (file_of c.args.forest.now)
      ∙ ap ends_of
      (no_pairs c.args.forest.now c.args.leaf c.page.result c.page.ensures.forest c.requires.leaf c.page.ensures.page c.in_default.not-Leaf
      ∙ sym (leaf_tree c.args.forest.now c.args.leaf c.page.ensures.forest c.requires.leaf));
  fits = c.new.ensures.fits (file_of c.args.forest.now);
}

pub returns-then-pairs-eq0-clause-ends : goal.returns-then-pairs-eq0-clause-ends
returns-then-pairs-eq0-clause-ends c =
    c.new-then-pairs-eq0.ensures.none (file_of c.args.forest.now)
    ∙ (no_ends_there (file_of c.args.forest.now) c.args.leaf c.pairs-pairs.result c.in-Leaf.view c.in-Leaf.ensures.page c.pairs-pairs.ensures
    (omega (arith, c.if-pairs-eq0.true))
    ∙ ap ends_of (sym (leaf_tree c.args.forest.now c.args.leaf c.page.ensures.forest c.requires.leaf)))

pub returns-then-pairs-eq0-clause-fits : goal.returns-then-pairs-eq0-clause-fits
returns-then-pairs-eq0-clause-fits c = c.new-then-pairs-eq0.ensures.fits (file_of c.args.forest.now)

-- The first key is the least, and the last the greatest.
pub returns-clause-ends : goal.returns-clause-ends
returns-clause-ends c =
    let tree = leaf_tree c.args.forest.now c.args.leaf c.page.ensures.forest c.requires.leaf in
    leaf_ends (file_of c.args.forest.now) c.args.leaf c.pairs-pairs.result c.in-Leaf.view (value_held (file_of c.args.forest.now) c.key_at.result)
    (value_held (file_of c.args.forest.now) c.key_at-2.result) c.in-Leaf.ensures.page c.pairs-pairs.ensures
    (omega (arith, c.if-pairs-eq0.false)) (subst DontFall tree c.requires.order) c.key_at.ensures.key c.key_at-2.ensures.key
    ∙ ap ends_of (sym tree)
