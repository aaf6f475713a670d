use Rattle.bdb_ranks.specs.of_format.Terms.{file_of}
use Rattle.bdb_btree.proofs.separators.Bounds.see_item.Goals as goal

pub see_separator-requires-clause-key : goal.see_separator-requires-clause-key
see_separator-requires-clause-key c = c.key_held.ensures.fits (file_of c.args.known.now) c.requires.key
