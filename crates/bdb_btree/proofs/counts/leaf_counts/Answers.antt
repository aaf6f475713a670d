use Rattle.std.proofs.Common.{◌∙◌, ap, sym, fold}
use Rattle.bdb_ranks.specs.of_format.Terms.{file_of, pairs_of}
use Rattle.bdb_btree.specs.Counts.{count_pair, counts_of}
use Rattle.bdb_btree.proofs.CountLemmas.{leaf_counted}
use Rattle.bdb_btree.proofs.ItemLemmas.{leaf_tree}
use Rattle.bdb_btree.proofs.counts.leaf_counts.Goals as goal

pub loop-pair-init : goal.loop-pair-init
loop-pair-init c =
    ap (fold count_pair (record { live = 0; all = 0 })) (c.into_iter-pair-iterator.ensures.into_iter_gives ∙ c.in-Some.ensures.pairs)
    ∙ (leaf_counted (pairs_of (file_of c.args.forest.now) c.args.leaf)
    ∙ ap counts_of (sym (leaf_tree c.args.forest.now c.args.leaf c.page_pairs.ensures.forest c.requires)))

pub returns-in_default : goal.returns-in_default
returns-in_default c =
    ap counts_of (c.in_default.ensures.pairs ∙ sym (leaf_tree c.args.forest.now c.args.leaf c.page_pairs.ensures.forest c.requires))
