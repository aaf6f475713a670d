use Rattle.bdb_ranks.specs.of_format.Terms.{file_of}
use Rattle.bdb_btree.proofs.order.KeyOrder.see.Goals as goal

pub is_not_above-requires-clause-value : goal.is_not_above-requires-clause-value
is_not_above-requires-clause-value c = c.leaf_held-key.ensures.fits (file_of c.args.known.now) c.requires.key

pub returns-clause-fits : goal.returns-clause-fits
returns-clause-fits c = c.leaf_held-key.ensures.fits (file_of c.args.known.now) c.requires.key
