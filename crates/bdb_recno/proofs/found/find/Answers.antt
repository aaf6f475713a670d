use Rattle.bdb_recno.proofs.ContentsLemmas.{right_counts}
use Rattle.bdb_recno.proofs.found.find.Goals as goal

pub record_of-requires-clause-counts : goal.record_of-requires-clause-counts
record_of-requires-clause-counts g c = rw c.pages_of-forest.ensures.pages
    (right_counts c.args.linked.now c.args.meta.now c.pages_of-forest.ensures.forest c.requires.meta c.requires.recno c.requires.contents)
