use Rattle.std.specs.Prelude.{◌*◌}
use Rattle.bdb_ranks.specs.of_format.Terms.{file_of}
use Rattle.bdb_ranks.specs.of_layout.Seen.{leaf_item_seen}
use Rattle.bdb_ranks.proofs.of_overflow.ContentLemmas.{leaf_item_fits}
use Rattle.bdb_btree.proofs.pair.key_at.Goals as goal

pub returns-clause-fits : goal.returns-clause-fits
returns-clause-fits c =
    c.leaf_held.ensures.fits (file_of c.args.forest.now)
    (leaf_item_fits c.args.forest.now c.args.page c.args.leaf.now (2 * c.args.i) (leaf_item_seen c.key.result) c.requires.forest c.requires.inside
    c.requires.leaf c.key.ensures)
