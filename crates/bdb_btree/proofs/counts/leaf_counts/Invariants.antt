use Rattle.std.proofs.Common.{◌≡◌, fold}
use Rattle.bdb_ranks.specs.of_format.Terms.{file_of, tree_pairs}
use Rattle.bdb_btree.specs.Counts.{count_pair, counts_of}
use Rattle.bdb_btree.proofs.counts.leaf_counts.Given as goal

-- The pairs counted and those that are left make up the whole.
abbrev pub invariant-loop-pair : goal.invariant-loop-pair
invariant-loop-pair l = fold count_pair l.counts l.pair-iterator ≡ counts_of (tree_pairs (file_of l.forest) l.leaf)
