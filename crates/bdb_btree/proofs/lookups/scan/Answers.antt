use Rattle.bdb_ranks.specs.of_format.Terms.{file_of}
use Rattle.bdb_btree.proofs.ScanLemmas.{list_of_pairs, tree_open}
use Rattle.bdb_btree.proofs.lookups.scan.Goals as goal

pub over-requires : goal.over-requires
over-requires c =
    let image = c.args.linked.now in
    rw c.forest-forest.ensures
    (tree_open image c.number.result c.tree_pairs-pairs.result c.root.ensures.forest (rw c.number.ensures c.root.ensures.fits) c.requires.stage
    (rw c.forest-forest.ensures at c.tree_pairs-pairs.ensures))

pub returns : goal.returns
returns c =
    let file = file_of c.args.linked.now in
    rw (c.over.ensures, c.forest-forest.ensures)
    (list_of_pairs file c.args.meta.now.root c.tree_pairs-pairs.result
    (rw (c.forest-forest.ensures, c.number.ensures, c.root.ensures.number) at c.tree_pairs-pairs.ensures))
