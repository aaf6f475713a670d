use Rattle.std.proofs.Common.{subst}
use Rattle.bdb_ranks.specs.of_format.declared.references.Sort.TheVariants.{DuplicateRoot}
use Rattle.bdb_ranks.specs.of_format.Terms.{file_of}
use Rattle.bdb_ranks.proofs.of_graph.LinkedLemmas.{target_inside}
use Rattle.bdb_ranks.specs.of_layout.Seen.{leaf_item_seen}
use Rattle.bdb_ranks.specs.of_layout.declared.items.LeafItem.{LeafItem}
use Rattle.bdb_btree.specs.Pairs.{FitsSet}
use Rattle.bdb_btree.proofs.duplicates.is_wrong_set.Goals as goal

-- The root of a set is there.
pub page-requires : goal.page-requires
page-requires c =
    target_inside c.args.forest.now DuplicateRoot c.in-Duplicates.root c.head.ensures.forest.linked
    (subst (λ (item : LeafItem). FitsSet (file_of c.args.forest.now) (leaf_item_seen item).content) c.in-Duplicates.is c.requires)
